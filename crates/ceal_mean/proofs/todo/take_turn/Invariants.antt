use Rattle.std.proofs.Common.{◌≡◌, ◌≤◌, length, vec_len}
use Rattle.ceal_mean.specs.Jumps.{next_turn, ready_after_turn}
use Rattle.ceal_mean.specs.Todo.{joined}
use Rattle.ceal_mean.proofs.todo.take_turn.Given as goal

abbrev pub invariant-loop-part : goal.invariant-loop-part
invariant-loop-part l = record {
  turn : next_turn (joined l.parts.items) ≡ next_turn (joined l.initial.parts.items);
  fewer : length l.parts.items ≤ length l.initial.parts.items;
  behind : ready_after_turn (joined l.parts.items) ≡ ready_after_turn (joined l.initial.parts.items);
}

abbrev pub decreases-loop-part : goal.decreases-loop-part
decreases-loop-part l = vec_len l.parts
