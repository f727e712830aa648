use Rattle.std.proofs.Common.{◌≡◌, ◌+◌, length}
use Rattle.ceal_base.specs.Trace.{steps_in}
use Rattle.ceal_session.proofs.restore.has_few_steps.Given as goal

abbrev pub invariant-loop-item : goal.invariant-loop-item
invariant-loop-item l = steps_in l.items + l.fuel ≡ steps_in l.fn.items + l.left

abbrev pub decreases-loop-item : goal.decreases-loop-item
decreases-loop-item l = length l.items
