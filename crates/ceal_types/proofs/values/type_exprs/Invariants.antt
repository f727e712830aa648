use Rattle.std.proofs.Common.{◌≡◌, [], drop}
use Rattle.ceal_types.specs.Expressions.{with_expr}
use Rattle.ceal_types.specs.Walk.{in_turn}
use Rattle.ceal_types.proofs.values.type_exprs.Given as goal

abbrev pub invariant-loop-e : goal.invariant-loop-e
invariant-loop-e l =
    in_turn (with_expr l.site.program.now l.site.own l.site.variables.now) (drop l.e-index l.es) l.typed ≡ in_turn (with_expr l.site.program.now l.site.own l.site.variables.now) l.es []
