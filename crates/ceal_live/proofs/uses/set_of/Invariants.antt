use Rattle.std.proofs.Common.{◌≡◌, ◌≤◌, ◌^◌, ℕ, length, take}
use Rattle.ceal_flow.specs.Sets.{is_in, IsAscending}
use Rattle.ceal_live.proofs.uses.set_of.Given as goal

abbrev pub invariant-loop-v : goal.invariant-loop-v
invariant-loop-v l = record {
  all : (v : ℕ) → is_in v l.set ≡ is_in v (take l.v-index l.used);
  ascending : IsAscending l.set;
  few : length l.set ≤ 2 ^ 32;
}
