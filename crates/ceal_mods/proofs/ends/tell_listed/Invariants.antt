use Rattle.std.proofs.Common.{◌≡◌, ◌++◌, drop}
use Rattle.ceal_mods.specs.Marks.{told}
use Rattle.ceal_mods.proofs.ends.tell_listed.Given as goal

abbrev pub invariant-loop-slot : goal.invariant-loop-slot
invariant-loop-slot g l = l.places.items ++ told l.ends l.cells (drop l.slot-index l.slots) ≡ l.initial.places.items ++ told l.ends l.cells l.slots
