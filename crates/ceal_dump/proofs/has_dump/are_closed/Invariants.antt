use Rattle.std.proofs.Common.{◌≡◌, ◌+◌, ◌≤◌, length}
use Rattle.ceal_dump.specs.DumpText.{closed}
use Rattle.ceal_dump.proofs.has_dump.are_closed.Given as goal

abbrev pub invariant-loop-item : goal.invariant-loop-item
invariant-loop-item l = record {
  same : closed l.open l.items ≡ closed 0 l.fn.items;
  few : l.open + length l.items ≤ length l.fn.items;
}

abbrev pub decreases-loop-item : goal.decreases-loop-item
decreases-loop-item l = length l.items
