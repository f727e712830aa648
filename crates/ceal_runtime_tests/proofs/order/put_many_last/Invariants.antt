use Rattle.std.proofs.Common.{◌≡◌, true}
use Rattle.ceal_order.specs.Stamps.{is_in}
use Rattle.ceal_runtime_tests.proofs.order.put_many_last.Given as goal

abbrev pub invariant-loop-count : goal.invariant-loop-count
invariant-loop-count g l = is_in l.last.0 l.order.stamps ≡ true
