use Rattle.std.proofs.Common.{arith, ◌<◌, ◌^◌, ◌∙◌}
use Rattle.ceal_trace.proofs.Changing.{steps_changed, steps_node, steps_are_set, steps_sum_moved, sum_small}
use Rattle.ceal_trace.proofs.Removing.{steps_within}
use Rattle.ceal_trace.proofs.Keeps.{there_is, row_bound, trace-touched}
use Rattle.ceal_trace.proofs.trace.Trace.set_steps.Goals as goal

pub overflow_sub-self : goal.overflow_sub-self
overflow_sub-self c =
    let here = there_is c.self.inside.order c.self.inside.table c.args.node.0 (rw (← c.self.view_is) at c.requires.here) in
    let within = steps_within _ _ _ _ c.self.invariant here in
    let was = c.from.ensures ∙ c.steps-old.ensures in
    omega arith

pub overflow_add-self : goal.overflow_add-self
overflow_add-self c =
    let here = there_is c.self.inside.order c.self.inside.table c.args.node.0 (rw (← c.self.view_is) at c.requires.here) in
    let small : c.args.steps < 2 ^ 32 = omega (arith, c.ranges.steps.fits) in
    let was = c.from.ensures ∙ c.steps-old.ensures in
    let now = c.from-2.ensures in
    let most = sum_small _ _ _ c.self.invariant in
    omega (arith, most)

pub invariant_of-self : goal.invariant_of-self
invariant_of-self c =
    let here = there_is c.self.inside.order c.self.inside.table c.args.node.0 (rw (← c.self.view_is) at c.requires.here) in
    let small : c.args.steps < 2 ^ 32 = omega (arith, c.ranges.steps.fits) in
    let was = c.from.ensures ∙ c.steps-old.ensures in
    let now = c.from-2.ensures in
    (steps_changed _ _ _ _ _ _ _ _ c.self.invariant here small c.set_steps.ensures was now).sound

pub returns-clause-nodes : goal.returns-clause-nodes
returns-clause-nodes c =
    let here = there_is c.self.inside.order c.self.inside.table c.args.node.0 (rw (← c.self.view_is) at c.requires.here) in
    let small : c.args.steps < 2 ^ 32 = omega (arith, c.ranges.steps.fits) in
    let was = c.from.ensures ∙ c.steps-old.ensures in
    let now = c.from-2.ensures in
    rw (← c.self.view_is) (steps_changed _ _ _ _ _ _ _ _ c.self.invariant here small c.set_steps.ensures was now).nodes

pub returns-clause-changed : goal.returns-clause-changed
returns-clause-changed c =
    let here = there_is c.self.inside.order c.self.inside.table c.args.node.0 (rw (← c.self.view_is) at c.requires.here) in
    let small : c.args.steps < 2 ^ 32 = omega (arith, c.ranges.steps.fits) in
    let was = c.from.ensures ∙ c.steps-old.ensures in
    let now = c.from-2.ensures in
    steps_are_set _ _ _ _ _ _ _ _ c.self.invariant here small c.set_steps.ensures was now

pub returns-clause-node : goal.returns-clause-node
returns-clause-node c =
    let here = there_is c.self.inside.order c.self.inside.table c.args.node.0 (rw (← c.self.view_is) at c.requires.here) in
    let small : c.args.steps < 2 ^ 32 = omega (arith, c.ranges.steps.fits) in
    let was = c.from.ensures ∙ c.steps-old.ensures in
    let now = c.from-2.ensures in
    rw (← c.self.view_is) (steps_node _ _ _ _ _ _ _ _ c.self.invariant here small c.set_steps.ensures was now)

pub returns-clause-others : goal.returns-clause-others
returns-clause-others c =
    let here = there_is c.self.inside.order c.self.inside.table c.args.node.0 (rw (← c.self.view_is) at c.requires.here) in
    let small : c.args.steps < 2 ^ 32 = omega (arith, c.ranges.steps.fits) in
    let was = c.from.ensures ∙ c.steps-old.ensures in
    let now = c.from-2.ensures in
    rw (← c.self.view_is) (steps_changed _ _ _ _ _ _ _ _ c.self.invariant here small c.set_steps.ensures was now).others

pub returns-clause-sum : goal.returns-clause-sum
returns-clause-sum c =
    let here = there_is c.self.inside.order c.self.inside.table c.args.node.0 (rw (← c.self.view_is) at c.requires.here) in
    let small : c.args.steps < 2 ^ 32 = omega (arith, c.ranges.steps.fits) in
    let was = c.from.ensures ∙ c.steps-old.ensures in
    let now = c.from-2.ensures in
    rw (← c.self.view_is) (steps_sum_moved _ _ _ _ _ _ _ _ c.self.invariant here small c.set_steps.ensures was now)

pub returns-clause-closed : goal.returns-clause-closed
returns-clause-closed c =
    let here = there_is c.self.inside.order c.self.inside.table c.args.node.0 (rw (← c.self.view_is) at c.requires.here) in
    let small : c.args.steps < 2 ^ 32 = omega (arith, c.ranges.steps.fits) in
    let was = c.from.ensures ∙ c.steps-old.ensures in
    let now = c.from-2.ensures in
    rw (← c.self.view_is) (steps_changed _ _ _ _ _ _ _ _ c.self.invariant here small c.set_steps.ensures was now).closed

pub returns-clause-whole : goal.returns-clause-whole
returns-clause-whole c =
    let here = there_is c.self.inside.order c.self.inside.table c.args.node.0 (rw (← c.self.view_is) at c.requires.here) in
    let small : c.args.steps < 2 ^ 32 = omega (arith, c.ranges.steps.fits) in
    let was = c.from.ensures ∙ c.steps-old.ensures in
    let now = c.from-2.ensures in
    trace-touched _ _ (steps_changed _ _ _ _ _ _ _ _ c.self.invariant here small c.set_steps.ensures was now).sound.is_trace

pub steps-old-requires : goal.steps-old-requires
steps-old-requires c =
    let here = there_is c.self.inside.order c.self.inside.table c.args.node.0 (rw (← c.self.view_is) at c.requires.here) in
    row_bound _ _ _ c.self.invariant.is_order c.self.invariant.has_nodes here

pub set_steps-requires : goal.set_steps-requires
set_steps-requires c =
    let here = there_is c.self.inside.order c.self.inside.table c.args.node.0 (rw (← c.self.view_is) at c.requires.here) in
    row_bound _ _ _ c.self.invariant.is_order c.self.invariant.has_nodes here
