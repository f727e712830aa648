use Rattle.std.proofs.Common.{◌≡◌, take}
use Rattle.ceal_norm.specs.Units.{call_args}
use Rattle.ceal_norm.proofs.expressions.call_args_of.Given as goal

abbrev pub invariant-loop-v : goal.invariant-loop-v
invariant-loop-v l = l.out.items ≡ call_args l.es (take l.v-index l.vs)
