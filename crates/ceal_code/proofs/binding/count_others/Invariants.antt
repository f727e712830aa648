use Rattle.std.proofs.Common.{◌≡◌, ◌≤◌, take}
use Rattle.ceal_code.specs.Weaving.{others}
use Rattle.ceal_code.proofs.binding.count_others.Given as goal

abbrev pub invariant-loop-i : goal.invariant-loop-i
invariant-loop-i l = record {
  few : l.count ≤ l.i;
  same : l.count ≡ others l.v (take l.i l.params);
}
