use Rattle.std.proofs.Common.{◌≡◌, ◌≤◌, length, take, drop}
use Rattle.ceal_code.specs.Init.{arguments}
use Rattle.ceal_code.specs.Step.{bound, woven}
use Rattle.ceal_code.specs.Weaving.{others}
use Rattle.ceal_code.proofs.binding.bind_given.Given as goal

abbrev pub invariant-loop-i : goal.invariant-loop-i
invariant-loop-i l = record {
  within : l.i ≤ length l.params;
  count : l.at ≡ others l.v (take l.i l.params);
  same : arguments l.env.items ≡ bound (drop l.i l.params) (woven (drop l.i l.params) l.v l.value (drop l.at l.args));
}

abbrev pub decreases-loop-i : goal.decreases-loop-i
decreases-loop-i l = l.i
