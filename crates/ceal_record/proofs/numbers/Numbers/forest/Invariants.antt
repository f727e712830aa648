use Rattle.std.proofs.Common.{◌≡◌, ◌++◌, length}
use Rattle.ceal_record.specs.Numbers.{number_of}
use Rattle.ceal_theory.specs.Segments.{items_by}
use Rattle.ceal_record.proofs.numbers.Numbers.forest.Given as goal

abbrev pub invariant-loop-item : goal.invariant-loop-item
invariant-loop-item l = l.named.items ++ items_by (number_of l.self) l.items ≡ items_by (number_of l.self) l.fn.items

abbrev pub decreases-loop-item : goal.decreases-loop-item
decreases-loop-item l = length l.items
