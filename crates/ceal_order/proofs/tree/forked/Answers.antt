use Rattle.std.proofs.Common.{arith}
use Rattle.std.proofs.lemmas.Grind.{common_steps}
use Rattle.ceal_order.proofs.Balance.{low}
use Rattle.ceal_order.proofs.tree.forked.Goals as goal

pub returns-clause-balanced : goal.returns-clause-balanced
returns-clause-balanced g c =
    let first = low c.args.earlier c.requires.earlier_balanced (omega (arith, c.requires.few)) in
    let second = low c.args.later c.requires.later_balanced (omega (arith, c.requires.few)) in
    grind (arith, common_steps, first, second)
