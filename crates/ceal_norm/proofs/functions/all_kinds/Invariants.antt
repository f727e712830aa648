use Rattle.std.proofs.Common.{◌≡◌, map, take}
use Rattle.ceal_norm.specs.Units.{kinds_code}
use Rattle.ceal_norm.proofs.functions.all_kinds.Given as goal

abbrev pub invariant-loop-f : goal.invariant-loop-f
invariant-loop-f l = l.out.items ≡ map kinds_code (take l.f-index l.functions)
