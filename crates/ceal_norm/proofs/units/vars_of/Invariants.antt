use Rattle.std.proofs.Common.{◌≡◌, take}
use Rattle.ceal_norm.specs.Units.{variables}
use Rattle.ceal_norm.proofs.units.vars_of.Given as goal

abbrev pub invariant-loop-v : goal.invariant-loop-v
invariant-loop-v l = l.out.items ≡ variables (take l.v-index l.vs)
