use Rattle.std.proofs.Common.{◌≡◌, ◌++◌, length}
use Rattle.ceal_code.specs.Listing.{more_vars}
use Rattle.ceal_code.proofs.text.put_more_vars.Given as goal

abbrev pub invariant-loop-v : goal.invariant-loop-v
invariant-loop-v l = l.out ++ more_vars l.vs ≡ l.initial.out ++ more_vars l.fn.vs

abbrev pub decreases-loop-v : goal.decreases-loop-v
decreases-loop-v l = length l.vs
