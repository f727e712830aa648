use Rattle.std.proofs.Common.{◌≡◌, ◌++◌, length}
use Rattle.ceal_print.specs.PrintWords.{texts, more_kinds}
use Rattle.ceal_print.proofs.expressions.put_more.Given as goal

abbrev pub invariant-loop-e : goal.invariant-loop-e
invariant-loop-e l = l.out ++ texts (more_kinds l.es) ≡ l.initial.out ++ texts (more_kinds l.fn.es)

abbrev pub decreases-loop-e : goal.decreases-loop-e
decreases-loop-e l = length l.es
