use Rattle.std.proofs.Common.{◌≡◌, ◌≤◌, ◌+◌, ◌-◌, length}
use Rattle.std.specs.Vec.{vec_len, vec_capacity}
use Rattle.ceal_trace.specs.Slots.{Longer}
use Rattle.ceal_trace.proofs.slot.lengthen.Given as goal

-- this number have been added, and there is room for the others
abbrev pub invariant-loop-added : goal.invariant-loop-added
invariant-loop-added l = record {
  long : length l.slots.items ≡ length l.fn.slots.items + l.added;
  longer : Longer l.fn.slots.items l.slots.items;
  room : vec_len l.slots + (l.more - l.added) ≤ vec_capacity l.slots;
}
