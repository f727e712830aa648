use Rattle.ceal_order.specs.Tree.{depth_of}
use Rattle.ceal_order.proofs.search.+before_in_tree.Given as goal

abbrev pub decreases-before_in_tree : goal.decreases-before_in_tree
decreases-before_in_tree l = depth_of l.tree.now
