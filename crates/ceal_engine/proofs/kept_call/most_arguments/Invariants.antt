use Rattle.std.proofs.Common.{◌≤◌, ◌<◌, ℕ, slice_get}
use Rattle.ceal_engine.specs.Keeping.{argument_count}
use Rattle.ceal_engine.proofs.kept_call.most_arguments.Given as goal

abbrev pub invariant-loop-function : goal.invariant-loop-function
invariant-loop-function l = (f : ℕ) → f < l.function-index → argument_count (slice_get l.functions f) ≤ l.most
