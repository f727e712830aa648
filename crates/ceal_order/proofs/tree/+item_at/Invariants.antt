use Rattle.ceal_order.specs.Tree.{depth_of}
use Rattle.ceal_order.proofs.tree.+item_at.Given as goal

abbrev pub decreases-item_at : goal.decreases-item_at
decreases-item_at g l = depth_of l.tree.now
