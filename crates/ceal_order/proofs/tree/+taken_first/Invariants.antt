use Rattle.ceal_order.specs.Tree.{depth_under}
use Rattle.ceal_order.proofs.tree.+taken_first.Given as goal

abbrev pub decreases-taken_first : goal.decreases-taken_first
decreases-taken_first g l = depth_under l.fork.value
