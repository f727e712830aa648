use Rattle.ceal_norm.proofs.Equations.UnitSteps.{units-step, ends-step}
use Rattle.ceal_norm.proofs.units.units_of.Goals as goal

-- a unit for each entry, in the order of the blocks, with the block that it begins at
pub loop-i-preserved : goal.loop-i-preserved
loop-i-preserved c = record {
  units = units-step c.args.plan.now c.loop-i.i c.in_ok-b.b _ _ c.in_ok-b.ensures.value c.in_ok-put_unit.ensures c.loop-i.invariant.units;
  ends = ends-step c.args.plan.now.graph.blocks c.loop-i.i c.in_ok-b.b c.block.result.now _ _ _ c.in_ok-b.ensures.value c.block.ensures.value c.ends.ensures
      c.in_ok-ended.ensures c.loop-i.invariant.ends;
}
