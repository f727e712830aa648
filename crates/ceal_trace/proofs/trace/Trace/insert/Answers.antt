use Rattle.ceal_trace.proofs.Keeps.{there_is, new_row, new_count, trace-touched}
use Rattle.ceal_trace.proofs.Growing.{plain_grew, plain_ends_are, plain_is_open}
use Rattle.ceal_trace.proofs.trace.Trace.insert.Goals as goal

pub insert_after-new-requires-clause-here : goal.insert_after-new-requires-clause-here
insert_after-new-requires-clause-here g c = there_is c.self.inside.order c.self.inside.table c.args.after.0 (rw (← c.self.view_is) at c.requires.here)

pub put-requires-clause-row : goal.put-requires-clause-row
put-requires-clause-row g c =
    let here = there_is c.self.inside.order c.self.inside.table c.args.after.0 (rw (← c.self.view_is) at c.requires.here) in
    let e = c.insert_after-new.ensures in
    new_row _ _ _ _ _ c.self.invariant.has_nodes here e.stamps e.spare e.below

pub put-requires-clause-few : goal.put-requires-clause-few
put-requires-clause-few g c = new_count c.self.inside.order c.insert_after-new.new.self c.self.inside.table c.self.invariant.has_nodes c.insert_after-new.ensures.spare

pub invariant_of-self : goal.invariant_of-self
invariant_of-self g c =
    let here = there_is c.self.inside.order c.self.inside.table c.args.after.0 (rw (← c.self.view_is) at c.requires.here) in
    let closed = rw (← c.self.view_is) at c.requires.closed in
    let e = c.insert_after-new.ensures in
    (plain_grew _ _ _ _ _ _ _ _ c.self.invariant closed here e.stamps e.spare e.others e.after e.whole c.put.ensures c.requires.plain).sound

pub returns-clause-nodes : goal.returns-clause-nodes
returns-clause-nodes g c =
    let here = there_is c.self.inside.order c.self.inside.table c.args.after.0 (rw (← c.self.view_is) at c.requires.here) in
    let closed = rw (← c.self.view_is) at c.requires.closed in
    let e = c.insert_after-new.ensures in
    rw (← c.self.view_is) (plain_grew _ _ _ _ _ _ _ _ c.self.invariant closed here e.stamps e.spare e.others e.after e.whole c.put.ensures c.requires.plain).nodes

pub returns-clause-inserted : goal.returns-clause-inserted
returns-clause-inserted g c =
    let here = there_is c.self.inside.order c.self.inside.table c.args.after.0 (rw (← c.self.view_is) at c.requires.here) in
    let closed = rw (← c.self.view_is) at c.requires.closed in
    let e = c.insert_after-new.ensures in
    rw (← c.self.view_is) (plain_grew _ _ _ _ _ _ _ _ c.self.invariant closed here e.stamps e.spare e.others e.after e.whole c.put.ensures c.requires.plain).inserted

pub returns-clause-open : goal.returns-clause-open
returns-clause-open g c =
    let here = there_is c.self.inside.order c.self.inside.table c.args.after.0 (rw (← c.self.view_is) at c.requires.here) in
    let closed = rw (← c.self.view_is) at c.requires.closed in
    let e = c.insert_after-new.ensures in
    plain_is_open _ _ _ _ _ _ _ _ c.self.invariant closed here e.stamps e.spare e.others e.after e.whole c.put.ensures c.requires.plain

pub returns-clause-ends : goal.returns-clause-ends
returns-clause-ends g c =
    let here = there_is c.self.inside.order c.self.inside.table c.args.after.0 (rw (← c.self.view_is) at c.requires.here) in
    let closed = rw (← c.self.view_is) at c.requires.closed in
    let e = c.insert_after-new.ensures in
    rw (← c.self.view_is) (plain_ends_are _ _ _ _ _ _ _ _ c.self.invariant closed here e.stamps e.spare e.others e.after e.whole c.put.ensures c.requires.plain)

pub returns-clause-closed : goal.returns-clause-closed
returns-clause-closed g c =
    let here = there_is c.self.inside.order c.self.inside.table c.args.after.0 (rw (← c.self.view_is) at c.requires.here) in
    let closed = rw (← c.self.view_is) at c.requires.closed in
    let e = c.insert_after-new.ensures in
    (plain_grew _ _ _ _ _ _ _ _ c.self.invariant closed here e.stamps e.spare e.others e.after e.whole c.put.ensures c.requires.plain).closed

pub returns-clause-whole : goal.returns-clause-whole
returns-clause-whole g c =
    let here = there_is c.self.inside.order c.self.inside.table c.args.after.0 (rw (← c.self.view_is) at c.requires.here) in
    let closed = rw (← c.self.view_is) at c.requires.closed in
    let e = c.insert_after-new.ensures in
    trace-touched _ _ (plain_grew _ _ _ _ _ _ _ _ c.self.invariant closed here e.stamps e.spare e.others e.after e.whole c.put.ensures c.requires.plain).sound.is_trace
