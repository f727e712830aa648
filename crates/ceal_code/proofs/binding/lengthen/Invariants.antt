use Rattle.std.proofs.Common.{◌≡◌, ◌≤◌, ◌-◌, length}
use Rattle.std.specs.Prelude.{vec_capacity}
use Rattle.ceal_code.specs.Init.{arguments}
use Rattle.ceal_code.proofs.binding.lengthen.Given as goal

abbrev pub invariant-loop-env : goal.invariant-loop-env
invariant-loop-env l = record {
  same : arguments l.env.items ≡ arguments l.fn.env.items;
  room : l.count ≤ vec_capacity l.env;
}

abbrev pub decreases-loop-env : goal.decreases-loop-env
decreases-loop-env l = l.count - length l.env.items
