use Rattle.ceal_norm.proofs.Equations.PlanSteps.{planned}
use Rattle.ceal_norm.proofs.plan.Plan.new.Goals as goal

pub invariant_of-result : goal.invariant_of-result
invariant_of-result c = planned c.args.graph.now c.in_ok-entries.entries.items c.requires.graph c.in_ok-entries.ensures.value
