use Rattle.std.proofs.Common.{◌≡◌, map, take}
use Rattle.ceal_norm.specs.Expressions.{expr_code}
use Rattle.ceal_norm.proofs.expressions.exprs_of.Given as goal

abbrev pub invariant-loop-e : goal.invariant-loop-e
invariant-loop-e l = l.out.items ≡ map expr_code (take l.e-index l.es)
