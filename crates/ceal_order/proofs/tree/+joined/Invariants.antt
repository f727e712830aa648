use Rattle.std.specs.Prelude.{◌+◌, ◌-◌}
use Rattle.ceal_order.specs.Tree.{depth_of}
use Rattle.ceal_order.proofs.tree.+joined.Given as goal

abbrev pub decreases-joined : goal.decreases-joined
decreases-joined g l = (depth_of l.earlier - depth_of l.later) + (depth_of l.later - depth_of l.earlier)
