use Rattle.std.proofs.Common.{◌≡◌, ◌++◌, Some, length, map}
use Rattle.ceal_code.specs.Tables.{memory_in}
use Rattle.ceal_traceck.specs.Items.{allocated}
use Rattle.ceal_record.proofs.memory.made_after.Given as goal

abbrev pub invariant-loop-item : goal.invariant-loop-item
invariant-loop-item l = map Some l.made.items ++ map (memory_in l.memory) (allocated l.items) ≡ map (memory_in l.memory) (allocated l.fn.items)

abbrev pub decreases-loop-item : goal.decreases-loop-item
decreases-loop-item l = length l.items
