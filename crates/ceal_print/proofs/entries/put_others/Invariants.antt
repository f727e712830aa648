use Rattle.std.proofs.Common.{◌≡◌, ◌++◌, length}
use Rattle.ceal_print.specs.PrintWords.{texts, other_kinds}
use Rattle.ceal_print.proofs.entries.put_others.Given as goal

abbrev pub invariant-loop-field : goal.invariant-loop-field
invariant-loop-field l = l.out ++ texts (other_kinds l.fields) ≡ l.initial.out ++ texts (other_kinds l.fn.fields)

abbrev pub decreases-loop-field : goal.decreases-loop-field
decreases-loop-field l = length l.fields
