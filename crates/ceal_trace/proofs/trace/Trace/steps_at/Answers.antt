use Rattle.std.proofs.Common.{sym, ◌∙◌}
use Rattle.ceal_trace.proofs.Keeps.{there_is, row_bound}
use Rattle.ceal_trace.proofs.Removing.{steps_are}
use Rattle.ceal_trace.proofs.trace.Trace.steps_at.Goals as goal

pub returns : goal.returns
returns c =
    let here = there_is c.self.inside.order c.self.inside.table c.args.node.0 (rw (← c.self.view_is) at c.requires.here) in
    rw (← c.self.view_is) (c.steps.ensures ∙ sym (steps_are c.self.inside.order c.self.inside.table c.args.node.0 here))

pub steps-requires : goal.steps-requires
steps-requires c =
    let here = there_is c.self.inside.order c.self.inside.table c.args.node.0 (rw (← c.self.view_is) at c.requires.here) in
    row_bound _ _ _ c.self.invariant.is_order c.self.invariant.has_nodes here
