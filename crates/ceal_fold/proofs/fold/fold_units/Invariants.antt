use Rattle.std.proofs.Common.{◌≡◌, true, ◌++◌, length, reverse}
use Rattle.ceal_fold.specs.Folding.{folded_units}
use Rattle.ceal_fold.specs.Trees.{are_trees}
use Rattle.ceal_fold.proofs.fold.fold_units.Given as goal

abbrev pub invariant-loop-unit : goal.invariant-loop-unit
invariant-loop-unit l = record {
  whole : (l.folded.items ++ folded_units l.structs (reverse l.units.items)) ≡ folded_units l.structs l.fn.units.items;
  trees : are_trees (reverse l.units.items) ≡ true;
}

abbrev pub decreases-loop-unit : goal.decreases-loop-unit
decreases-loop-unit l = length l.units.items
