use Rattle.std.proofs.Common.{◌≡◌, ◌-◌, length, true}
use Rattle.ceal_order.specs.Stamps.{is_in, place}
use Rattle.ceal_runtime_tests.proofs.order.walked.Given as goal

abbrev pub invariant-loop-next : goal.invariant-loop-next
invariant-loop-next g l = is_in l.at.0 l.order.stamps ≡ true

abbrev pub decreases-loop-next : goal.decreases-loop-next
decreases-loop-next g l = length l.order.stamps - place l.at.0 l.order.stamps
