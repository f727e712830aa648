use Rattle.std.proofs.Common.{◌≤◌, ℕ, List}
use Rattle.ceal_base.specs.declared.word.Word.{Word}
use Rattle.ceal_code.specs.Fitting.{Fits}
use Rattle.ceal_theory.specs.Repair.{own}
use Rattle.ceal_theory.specs.Slices.{Repair, RepairHolds}
use Rattle.ceal_adjust.proofs.Sliced.{Reached, Within}
use Rattle.ceal_adjust.specs.Slicing.{StandsFor}
use Rattle.ceal_adjust.proofs.slices.slice_repair.Given as goal

abbrev pub invariant-loop-turns : goal.invariant-loop-turns
invariant-loop-turns l = record {
  few : l.repair.spent ≤ l.fuel;
  within : Within l.reads l.turns;
  reached : (r : Repair) (f : ℕ) (args : List Word) → Fits l.code l.inputs f args → StandsFor l.fn.repair r → RepairHolds l.code own l.inputs f args r
      → Reached l.code l.inputs f args l.turns r l.repair;
}
