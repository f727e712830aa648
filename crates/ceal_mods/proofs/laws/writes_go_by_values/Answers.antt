use Rattle.std.proofs.Common.{ap, sym, ◌∙◌, is_some}
use Rattle.ceal_mods.proofs.StampLemmas.{written-there, values-same}
use Rattle.ceal_mods.proofs.laws.writes_go_by_values.Goals as goal

pub returns-clause-there : goal.returns-clause-there
returns-clause-there c = λ s writes. written-there s writes

pub returns-clause-same : goal.returns-clause-same
returns-clause-same c = λ order xs ys rx ry same.
    values-same order xs ys rx (c.rising_members.ensures.same order _ _ rx ry (λ s. sym (written-there s xs) ∙ ap is_some (same s) ∙ written-there s ys)) same
