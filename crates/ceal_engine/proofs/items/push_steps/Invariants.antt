use Rattle.std.proofs.Common.{◌≡◌, ◌++◌}
use Rattle.ceal_trace.specs.Items.{ticks}
use Rattle.ceal_engine.proofs.items.push_steps.Given as goal

abbrev pub invariant-loop-step : goal.invariant-loop-step
invariant-loop-step l = l.items.items ≡ l.fn.items.items ++ ticks l._step
