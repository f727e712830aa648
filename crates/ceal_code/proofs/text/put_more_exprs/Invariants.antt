use Rattle.std.proofs.Common.{◌≡◌, ◌++◌, length}
use Rattle.ceal_code.specs.Listing.{more_exprs}
use Rattle.ceal_code.proofs.text.put_more_exprs.Given as goal

abbrev pub invariant-loop-e : goal.invariant-loop-e
invariant-loop-e l = l.out ++ more_exprs l.structs l.es ≡ l.initial.out ++ more_exprs l.structs l.fn.es

abbrev pub decreases-loop-e : goal.decreases-loop-e
decreases-loop-e l = length l.es
