use Rattle.std.proofs.Common.{◌≡◌, ◌+◌, [], length, replicate}
use Rattle.ceal_code.specs.Listing.{grouped}
use Rattle.ceal_code.proofs.listing.group_units.Given as goal

abbrev pub invariant-loop-unit : goal.invariant-loop-unit
invariant-loop-unit l = record {
  count : l.at + length l.units ≡ length l.fn.units;
  same : grouped l.groups.items l.at l.units ≡ grouped (replicate l.n []) 0 l.fn.units;
}

abbrev pub decreases-loop-unit : goal.decreases-loop-unit
decreases-loop-unit l = length l.units
