use Rattle.std.proofs.Common.{◌≡◌}
use Rattle.ceal_adjust.specs.Marks.{depth, depths, places}
use Rattle.ceal_adjust.specs.Places.{listed}
use Rattle.ceal_adjust.specs.declared.mark.Mark.{Mark}
use Rattle.ceal_adjust.proofs.old.tables_of.Given as goal

abbrev pub invariant-loop-item : goal.invariant-loop-item
invariant-loop-item l = record {
  counted : l.at ≡ l.item-index;
  nested : l.depth ≡ depth l.items l.item-index;
  depths : l.nesting.items ≡ depths l.items l.item-index;
  places : (m : Mark) → listed l.table m ≡ places l.items m l.item-index;
}
