use Rattle.std.proofs.Common.{◌≡◌, ◌≤◌, length, take, vec_capacity}
use Rattle.ceal_queue.proofs.stamps.move_all.Given as goal

abbrev pub invariant-loop-at : goal.invariant-loop-at
invariant-loop-at l = record {
  moved : l.plain.items ≡ take l.at l.sequence;
  raises : vec_capacity l.initial.plain ≤ vec_capacity l.plain;
  within : l.at ≤ length l.sequence;
}
