use Rattle.std.proofs.Common.{sym, ◌∙◌}
use Rattle.ceal_trace.proofs.Keeps.{there_is, trace-touched}
use Rattle.ceal_trace.proofs.Removing.{shrank, end_row, steps_within, steps_are}
use Rattle.ceal_trace.proofs.trace.Trace.remove.Goals as goal

pub take-gone-requires-clause-some : goal.take-gone-requires-clause-some
take-gone-requires-clause-some c =
    let here = there_is c.self.inside.order c.self.inside.table c.args.stamp.0 (rw (← c.self.view_is) at c.requires.here) in
    c.self.invariant.has_nodes.held _ here

pub take-gone-requires-clause-read : goal.take-gone-requires-clause-read
take-gone-requires-clause-read c =
    let here = there_is c.self.inside.order c.self.inside.table c.args.stamp.0 (rw (← c.self.view_is) at c.requires.here) in
    end_row _ _ _ _ c.self.invariant here

pub delete-requires-clause-here : goal.delete-requires-clause-here
delete-requires-clause-here c = there_is c.self.inside.order c.self.inside.table c.args.stamp.0 (rw (← c.self.view_is) at c.requires.here)

pub overflow_sub-self : goal.overflow_sub-self
overflow_sub-self c =
    let here = there_is c.self.inside.order c.self.inside.table c.args.stamp.0 (rw (← c.self.view_is) at c.requires.here) in
    let within = steps_within _ _ _ _ c.self.invariant here in
    rw (c.from.ensures, c.take-gone.ensures.steps) within

pub invariant_of-self : goal.invariant_of-self
invariant_of-self c =
    let here = there_is c.self.inside.order c.self.inside.table c.args.stamp.0 (rw (← c.self.view_is) at c.requires.here) in
    let not_root = rw (← c.self.view_is) at c.requires.not_root in
    let e = c.delete.ensures in
    rw (c.from.ensures, c.take-gone.ensures.steps) (shrank _ _ _ _ _ _ _ c.self.invariant here not_root e.stamps e.spare e.others e.whole c.take-gone.ensures.node).sound

pub returns-clause-nodes : goal.returns-clause-nodes
returns-clause-nodes c =
    let here = there_is c.self.inside.order c.self.inside.table c.args.stamp.0 (rw (← c.self.view_is) at c.requires.here) in
    let not_root = rw (← c.self.view_is) at c.requires.not_root in
    let e = c.delete.ensures in
    rw (← c.self.view_is) (shrank _ _ _ _ _ _ _ c.self.invariant here not_root e.stamps e.spare e.others e.whole c.take-gone.ensures.node).nodes

pub returns-clause-node : goal.returns-clause-node
returns-clause-node c =
    let here = there_is c.self.inside.order c.self.inside.table c.args.stamp.0 (rw (← c.self.view_is) at c.requires.here) in
    let not_root = rw (← c.self.view_is) at c.requires.not_root in
    let e = c.delete.ensures in
    rw (← c.self.view_is) (shrank _ _ _ _ _ _ _ c.self.invariant here not_root e.stamps e.spare e.others e.whole c.take-gone.ensures.node).node

pub returns-clause-others : goal.returns-clause-others
returns-clause-others c =
    let here = there_is c.self.inside.order c.self.inside.table c.args.stamp.0 (rw (← c.self.view_is) at c.requires.here) in
    let not_root = rw (← c.self.view_is) at c.requires.not_root in
    let e = c.delete.ensures in
    rw (← c.self.view_is) (shrank _ _ _ _ _ _ _ c.self.invariant here not_root e.stamps e.spare e.others e.whole c.take-gone.ensures.node).others

pub returns-clause-opened : goal.returns-clause-opened
returns-clause-opened c =
    let here = there_is c.self.inside.order c.self.inside.table c.args.stamp.0 (rw (← c.self.view_is) at c.requires.here) in
    let not_root = rw (← c.self.view_is) at c.requires.not_root in
    let e = c.delete.ensures in
    (shrank _ _ _ _ _ _ _ c.self.invariant here not_root e.stamps e.spare e.others e.whole c.take-gone.ensures.node).opened

pub returns-clause-ends : goal.returns-clause-ends
returns-clause-ends c =
    let here = there_is c.self.inside.order c.self.inside.table c.args.stamp.0 (rw (← c.self.view_is) at c.requires.here) in
    let not_root = rw (← c.self.view_is) at c.requires.not_root in
    let e = c.delete.ensures in
    rw (← c.self.view_is) (shrank _ _ _ _ _ _ _ c.self.invariant here not_root e.stamps e.spare e.others e.whole c.take-gone.ensures.node).other_ends

pub returns-clause-loose : goal.returns-clause-loose
returns-clause-loose c =
    let here = there_is c.self.inside.order c.self.inside.table c.args.stamp.0 (rw (← c.self.view_is) at c.requires.here) in
    let not_root = rw (← c.self.view_is) at c.requires.not_root in
    let e = c.delete.ensures in
    rw (← c.self.view_is) (shrank _ _ _ _ _ _ _ c.self.invariant here not_root e.stamps e.spare e.others e.whole c.take-gone.ensures.node).loose

pub returns-clause-closed : goal.returns-clause-closed
returns-clause-closed c =
    let here = there_is c.self.inside.order c.self.inside.table c.args.stamp.0 (rw (← c.self.view_is) at c.requires.here) in
    let not_root = rw (← c.self.view_is) at c.requires.not_root in
    let e = c.delete.ensures in
    rw (← c.self.view_is) (shrank _ _ _ _ _ _ _ c.self.invariant here not_root e.stamps e.spare e.others e.whole c.take-gone.ensures.node).closed

pub returns-clause-still : goal.returns-clause-still
returns-clause-still c =
    let here = there_is c.self.inside.order c.self.inside.table c.args.stamp.0 (rw (← c.self.view_is) at c.requires.here) in
    let not_root = rw (← c.self.view_is) at c.requires.not_root in
    let e = c.delete.ensures in
    let left = shrank _ _ _ _ _ _ _ c.self.invariant here not_root e.stamps e.spare e.others e.whole c.take-gone.ensures.node in
    rw (← c.self.view_is) (λ read loose other unfinished. left.still read loose unfinished)

pub returns-clause-mended : goal.returns-clause-mended
returns-clause-mended c =
    let here = there_is c.self.inside.order c.self.inside.table c.args.stamp.0 (rw (← c.self.view_is) at c.requires.here) in
    let not_root = rw (← c.self.view_is) at c.requires.not_root in
    let e = c.delete.ensures in
    rw (← c.self.view_is) (shrank _ _ _ _ _ _ _ c.self.invariant here not_root e.stamps e.spare e.others e.whole c.take-gone.ensures.node).mended

pub returns-clause-steps : goal.returns-clause-steps
returns-clause-steps c =
    let here = there_is c.self.inside.order c.self.inside.table c.args.stamp.0 (rw (← c.self.view_is) at c.requires.here) in
    let not_root = rw (← c.self.view_is) at c.requires.not_root in
    let e = c.delete.ensures in
    rw (← c.self.view_is) (c.take-gone.ensures.steps ∙ sym (steps_are c.self.inside.order c.self.inside.table c.args.stamp.0 here))

pub returns-clause-whole : goal.returns-clause-whole
returns-clause-whole c =
    let here = there_is c.self.inside.order c.self.inside.table c.args.stamp.0 (rw (← c.self.view_is) at c.requires.here) in
    let not_root = rw (← c.self.view_is) at c.requires.not_root in
    let e = c.delete.ensures in
    trace-touched _ _ (shrank _ _ _ _ _ _ _ c.self.invariant here not_root e.stamps e.spare e.others e.whole c.take-gone.ensures.node).sound.is_trace
