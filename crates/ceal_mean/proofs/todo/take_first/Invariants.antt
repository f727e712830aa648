use Rattle.std.proofs.Common.{◌≡◌, vec_len}
use Rattle.ceal_mean.specs.Jumps.{ready}
use Rattle.ceal_mean.specs.Todo.{joined}
use Rattle.ceal_mean.proofs.todo.take_first.Given as goal

abbrev pub invariant-loop-part : goal.invariant-loop-part
invariant-loop-part l = ready (joined l.parts.items) ≡ ready (joined l.initial.parts.items)

abbrev pub decreases-loop-part : goal.decreases-loop-part
decreases-loop-part l = vec_len l.parts
