use Rattle.std.proofs.Common.{◌∙◌}
use Rattle.std.proofs.lemmas.Result.{on_ok_weaker}
use Rattle.ceal_repair.proofs.Runs.BlockBases.{only-both}
use Rattle.ceal_repair.proofs.bases.renew_bases.Goals as goal

pub returns-clause-here : goal.returns-clause-here
returns-clause-here c = on_ok_weaker c.set_bases.result (λ h p same. h p same ∙ c.in_ok-clear_others.ensures.here p same) c.set_bases.ensures.here

pub returns-clause-only : goal.returns-clause-only
returns-clause-only c =
    only-both c.args.id c.args.tables.now c.clear_others.new.tables c.set_bases.new.tables c.requires.kept c.in_ok-clear_others.ensures.kept c.in_ok-clear_others.ensures.trace
    c.in_ok-clear_others.ensures.only c.set_bases.ensures.only
