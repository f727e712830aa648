use Rattle.std.proofs.Common.{◌≡◌, ◌++◌, drop}
use Rattle.ceal_mods.specs.Marks.{told_new}
use Rattle.ceal_mods.proofs.ends.tell_new.Given as goal

abbrev pub invariant-loop-entry : goal.invariant-loop-entry
invariant-loop-entry g l = l.places.items ++ told_new (drop l.entry-index l.cells) ≡ l.initial.places.items ++ told_new l.cells
