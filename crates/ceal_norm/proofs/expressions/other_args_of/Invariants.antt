use Rattle.std.proofs.Common.{◌≡◌, ◌++◌, length}
use Rattle.ceal_norm.specs.Units.{own_args, without}
use Rattle.ceal_norm.proofs.expressions.other_args_of.Given as goal

abbrev pub invariant-loop-v : goal.invariant-loop-v
invariant-loop-v l = l.out.items ++ own_args (without l.but l.vs) ≡ own_args (without l.but l.fn.vs)

abbrev pub decreases-loop-v : goal.decreases-loop-v
decreases-loop-v l = length l.vs
