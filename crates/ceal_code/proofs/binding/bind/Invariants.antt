use Rattle.std.proofs.Common.{◌≡◌, ◌≤◌, length, drop}
use Rattle.ceal_code.specs.Init.{arguments}
use Rattle.ceal_code.specs.Step.{bound}
use Rattle.ceal_code.proofs.binding.bind.Given as goal

abbrev pub invariant-loop-i : goal.invariant-loop-i
invariant-loop-i l = record {
  within : l.i ≤ length l.params;
  inside : l.i ≤ length l.words;
  same : arguments l.env.items ≡ bound (drop l.i l.params) (drop l.i l.words);
}

abbrev pub decreases-loop-i : goal.decreases-loop-i
decreases-loop-i l = l.i
