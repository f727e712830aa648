use Rattle.std.proofs.Common.{◌≡◌, map, take}
use Rattle.ceal_mean.specs.Value.{value_of}
use Rattle.ceal_mean.proofs.machine.values.Given as goal

abbrev pub invariant-loop-arg : goal.invariant-loop-arg
invariant-loop-arg l = l.words.items ≡ map (λ e. value_of l.env l.memory e) (take l.arg-index l.args)
