use Rattle.std.proofs.Common.{◌≡◌, ◌≤◌, length, drop}
use Rattle.ceal_code.specs.Init.{arguments}
use Rattle.ceal_code.specs.Step.{bound}
use Rattle.ceal_code.specs.Value.{values}
use Rattle.ceal_code.proofs.binding.bind_values.Given as goal

abbrev pub invariant-loop-i : goal.invariant-loop-i
invariant-loop-i g l = record {
  within : l.i ≤ length l.params;
  inside : l.i ≤ length l.es;
  same : arguments l.env.items
      ≡ bound (drop l.i l.params) (values l.scope.structs.now (g.P.PlainWords.plain l.scope.plain.now) (arguments l.scope.env.now) (drop l.i l.es));
}

abbrev pub decreases-loop-i : goal.decreases-loop-i
decreases-loop-i g l = l.i
