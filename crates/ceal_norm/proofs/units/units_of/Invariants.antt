use Rattle.std.proofs.Common.{◌≡◌}
use Rattle.ceal_norm.specs.Units.{ends_before, units_before}
use Rattle.ceal_norm.proofs.units.units_of.Given as goal

abbrev pub invariant-loop-i : goal.invariant-loop-i
invariant-loop-i l = record {
  units : l.units.items ≡ units_before l.plan l.i;
  ends : l.ended ≡ ends_before l.plan.graph.blocks l.i;
}
