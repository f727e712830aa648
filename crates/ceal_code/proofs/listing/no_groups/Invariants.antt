use Rattle.std.proofs.Common.{◌≡◌, [], replicate}
use Rattle.ceal_code.proofs.listing.no_groups.Given as goal

abbrev pub invariant-loop-i : goal.invariant-loop-i
invariant-loop-i l = l.groups.items ≡ replicate l.i []
