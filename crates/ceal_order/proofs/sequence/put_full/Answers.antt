use Rattle.std.proofs.Common.{arith}
use Rattle.ceal_order.proofs.Balance.{few_forks}
use Rattle.ceal_order.proofs.sequence.put_full.Goals as goal

pub joined-requires-clause-few : goal.joined-requires-clause-few
joined-requires-clause-few g c =
    rw c.replace-tree.ensures.value (omega (arith, few_forks c.args.front.now c.requires.balanced, c.requires.few))
