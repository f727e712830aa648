use Rattle.std.proofs.Common.{sym, ◌∙◌}
use Rattle.ceal_trace.specs.Keeping.{timeline}
use Rattle.ceal_trace.proofs.ItemSteps.{steps-forest}
use Rattle.ceal_trace.proofs.trace.Trace.steps.Goals as goal

pub returns-clause-items : goal.returns-clause-items
returns-clause-items c = rw (← c.self.view_is) (c.self.invariant.sum ∙ sym (steps-forest (timeline c.self.inside.order c.self.inside.table).nodes))
