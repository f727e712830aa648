use Rattle.std.proofs.Common.{◌≡◌, ◌++◌, length}
use Rattle.ceal_code.specs.Listing.{units_text}
use Rattle.ceal_code.proofs.listing.put_units.Given as goal

abbrev pub invariant-loop-n : goal.invariant-loop-n
invariant-loop-n l = l.out ++ units_text l.code l.ns ≡ l.initial.out ++ units_text l.code l.fn.ns

abbrev pub decreases-loop-n : goal.decreases-loop-n
decreases-loop-n l = length l.ns
