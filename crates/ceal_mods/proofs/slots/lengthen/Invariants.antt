use Rattle.std.proofs.Common.{◌≡◌, ◌+◌, length}
use Rattle.ceal_mods.specs.Slots.{SameSlots}
use Rattle.ceal_mods.proofs.slots.lengthen.Given as goal

abbrev pub invariant-loop-added : goal.invariant-loop-added
invariant-loop-added l = record {
  long : length l.rows.items ≡ length l.initial.rows.items + l.added;
  same : SameSlots l.initial.rows.items l.rows.items;
}
