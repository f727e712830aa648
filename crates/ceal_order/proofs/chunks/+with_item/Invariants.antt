use Rattle.ceal_order.specs.Tree.{depth_of}
use Rattle.ceal_order.proofs.chunks.+with_item.Given as goal

abbrev pub decreases-with_item : goal.decreases-with_item
decreases-with_item g l = depth_of l.tree
