use Rattle.std.proofs.Common.{◌≡◌, ◌<◌, ◌≤◌, ℕ, true, false}
use Rattle.ceal_live.specs.Rounds.{IsClosed, Underway, room}
use Rattle.ceal_live.proofs.round.go_round.Given as goal

abbrev pub invariant-loop-at : goal.invariant-loop-at
invariant-loop-at l = record {
  underway : Underway l.blocks l.sets.items;
  same : l.changed ≡ false → l.sets.items ≡ l.initial.sets.items;
  closed : l.changed ≡ false → (b : ℕ) → l.at ≤ b → IsClosed l.blocks l.sets.items b;
  more : l.changed ≡ true → room l.sets.items < room l.initial.sets.items;
}
