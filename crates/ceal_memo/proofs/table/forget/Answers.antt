use Rattle.std.proofs.Common.{sym, ◌∙◌}
use Rattle.ceal_memo.proofs.Taking.{untouched, taken, number_in, nowhere_in}
use Rattle.ceal_memo.proofs.table.forget.Goals as goal

pub returns-in-Nowhere : goal.returns-in-Nowhere
returns-in-Nowhere c = untouched c.args.stamp.0 c.args.lists.now (λ n found. nowhere_in n (sym c.in-Nowhere.is ∙ c.requires.home n found))

pub returns-in-In : goal.returns-in-In
returns-in-In c =
    taken c.args.stamp.0 c.in-In.number c.args.lists.now c.take.new.self c.take.ensures.hashes c.take.ensures.here c.take.ensures.others
    (λ n found. number_in n c.in-In.number (sym (c.requires.home n found) ∙ c.in-In.is))
