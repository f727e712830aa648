use Rattle.std.proofs.Common.{◌≡◌, ◌++◌, length}
use Rattle.ceal_print.specs.PrintWords.{texts, entries_kinds}
use Rattle.ceal_print.proofs.entries.put_entries.Given as goal

abbrev pub invariant-loop-entry : goal.invariant-loop-entry
invariant-loop-entry l = l.out ++ texts (entries_kinds l.entries) ≡ l.initial.out ++ texts (entries_kinds l.fn.entries)

abbrev pub decreases-loop-entry : goal.decreases-loop-entry
decreases-loop-entry l = length l.entries
