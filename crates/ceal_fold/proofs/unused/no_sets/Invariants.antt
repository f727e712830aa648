use Rattle.std.proofs.Common.{◌≡◌, [], replicate}
use Rattle.ceal_fold.proofs.unused.no_sets.Given as goal

abbrev pub invariant-loop-i : goal.invariant-loop-i
invariant-loop-i l = l.sets.items ≡ replicate l.i []
