use Rattle.std.proofs.Common.{◌≡◌, map, take}
use Rattle.ceal_norm.specs.Units.{function_code}
use Rattle.ceal_norm.proofs.functions.functions_of.Given as goal

abbrev pub invariant-loop-f : goal.invariant-loop-f
invariant-loop-f l = l.out.items ≡ map (function_code l.plan) (take l.f l.plan.graph.functions)
