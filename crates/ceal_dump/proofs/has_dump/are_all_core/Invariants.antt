use Rattle.std.proofs.Common.{◌≡◌, length}
use Rattle.ceal_dump.specs.DumpText.{all_core}
use Rattle.ceal_dump.proofs.has_dump.are_all_core.Given as goal

abbrev pub invariant-loop-item : goal.invariant-loop-item
invariant-loop-item l = all_core l.items ≡ all_core l.fn.items

abbrev pub decreases-loop-item : goal.decreases-loop-item
decreases-loop-item l = length l.items
