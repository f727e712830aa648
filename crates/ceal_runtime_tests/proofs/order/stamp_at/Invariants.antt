use Rattle.std.proofs.Common.{◌≡◌, true}
use Rattle.ceal_order.specs.Stamps.{is_in}
use Rattle.ceal_runtime_tests.proofs.order.stamp_at.Given as goal

abbrev pub invariant-loop-place : goal.invariant-loop-place
invariant-loop-place l = is_in l.at.0 l.order.stamps ≡ true
