use Rattle.ceal_order.specs.Tree.{depth_of}
use Rattle.ceal_order.proofs.chunks.+first_len.Given as goal

abbrev pub decreases-first_len : goal.decreases-first_len
decreases-first_len g l = depth_of l.tree.now
