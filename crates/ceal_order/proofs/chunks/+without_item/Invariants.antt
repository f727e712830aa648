use Rattle.ceal_order.specs.Tree.{depth_of}
use Rattle.ceal_order.proofs.chunks.+without_item.Given as goal

abbrev pub decreases-without_item : goal.decreases-without_item
decreases-without_item g l = depth_of l.tree
