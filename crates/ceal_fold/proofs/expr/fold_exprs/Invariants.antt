use Rattle.std.proofs.Common.{◌≡◌, ◌++◌, length}
use Rattle.ceal_fold.specs.Folding.{folded_exprs}
use Rattle.ceal_fold.specs.States.{copy_at}
use Rattle.ceal_fold.proofs.expr.fold_exprs.Given as goal

abbrev pub invariant-loop-e : goal.invariant-loop-e
invariant-loop-e l = (l.list.items ++ folded_exprs l.structs (copy_at l.known) l.rest) ≡ folded_exprs l.structs (copy_at l.known) l.es

abbrev pub decreases-loop-e : goal.decreases-loop-e
decreases-loop-e l = length l.rest
