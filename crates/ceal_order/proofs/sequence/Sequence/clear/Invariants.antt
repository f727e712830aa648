use Rattle.std.proofs.Common.{◌≡◌, length}
use Rattle.ceal_order.proofs.sequence.Sequence.clear.Given as goal

-- the items that are left are still to be taken out
abbrev pub invariant-loop-left : goal.invariant-loop-left
invariant-loop-left g l = length l.self ≡ l.left

abbrev pub decreases-loop-left : goal.decreases-loop-left
decreases-loop-left g l = l.left
