use Rattle.std.proofs.Common.{◌≡◌, take}
use Rattle.ceal_norm.specs.Units.{own_args}
use Rattle.ceal_norm.proofs.expressions.own_args_of.Given as goal

abbrev pub invariant-loop-v : goal.invariant-loop-v
invariant-loop-v l = l.out.items ≡ own_args (take l.v-index l.vs)
