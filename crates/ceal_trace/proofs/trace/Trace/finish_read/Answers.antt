use Rattle.std.proofs.Common.{refl, arith, ◌<◌, length}
use Rattle.ceal_trace.proofs.Entries.{has-read}
use Rattle.ceal_trace.proofs.Keeps.{there_is, new_row, new_count, row_bound, trace-touched}
use Rattle.ceal_trace.proofs.Growing.{end_grew, end_is_found, end_others_are}
use Rattle.ceal_trace.proofs.trace.Trace.finish_read.Goals as goal

pub insert_after-end-requires-clause-here : goal.insert_after-end-requires-clause-here
insert_after-end-requires-clause-here c = there_is c.self.inside.order c.self.inside.table c.args.after.0 (rw (← c.self.view_is) at c.requires.here)

pub put-requires-clause-row : goal.put-requires-clause-row
put-requires-clause-row c =
    let here = there_is c.self.inside.order c.self.inside.table c.args.after.0 (rw (← c.self.view_is) at c.requires.here) in
    let e = c.insert_after-end.ensures in
    new_row _ _ _ _ _ c.self.invariant.has_nodes here e.stamps e.spare e.below

pub put-requires-clause-few : goal.put-requires-clause-few
put-requires-clause-few c = new_count c.self.inside.order c.insert_after-end.new.self c.self.inside.table c.self.invariant.has_nodes c.insert_after-end.ensures.spare

pub set_end-requires : goal.set_end-requires
set_end-requires c =
    let reads = rw (← c.self.view_is) at c.requires.read in
    let there = there_is c.self.inside.order c.self.inside.table c.args.read.0 (has-read c.args.read.0 _ reads) in
    let low : c.args.read.0 < length c.self.inside.table.rows = row_bound _ _ _ c.self.invariant.is_order c.self.invariant.has_nodes there in
    let long = c.put.ensures.long in
    omega arith

pub invariant_of-self : goal.invariant_of-self
invariant_of-self c =
    let here = there_is c.self.inside.order c.self.inside.table c.args.after.0 (rw (← c.self.view_is) at c.requires.here) in
    let closed = rw (← c.self.view_is) at c.requires.closed in
    let reads = rw (← c.self.view_is) at c.requires.read in
    let unfinished = rw (← c.self.view_is) at c.requires.unfinished in
    let up = rw (← c.self.view_is) at c.requires.behind in
    let e = c.insert_after-end.ensures in
    (end_grew _ _ _ _ _ _ _ _ c.self.invariant closed here e.stamps e.spare e.others e.after e.whole c.put.ensures _ c.args.read refl reads unfinished up c.set_end.ensures).sound

pub returns-clause-nodes : goal.returns-clause-nodes
returns-clause-nodes c =
    let here = there_is c.self.inside.order c.self.inside.table c.args.after.0 (rw (← c.self.view_is) at c.requires.here) in
    let closed = rw (← c.self.view_is) at c.requires.closed in
    let reads = rw (← c.self.view_is) at c.requires.read in
    let unfinished = rw (← c.self.view_is) at c.requires.unfinished in
    let up = rw (← c.self.view_is) at c.requires.behind in
    let e = c.insert_after-end.ensures in
    rw (← c.self.view_is) (end_grew _ _ _ _ _ _ _ _ c.self.invariant closed here e.stamps e.spare e.others e.after e.whole c.put.ensures _ c.args.read refl reads unfinished up c.set_end.ensures).nodes

pub returns-clause-inserted : goal.returns-clause-inserted
returns-clause-inserted c =
    let here = there_is c.self.inside.order c.self.inside.table c.args.after.0 (rw (← c.self.view_is) at c.requires.here) in
    let closed = rw (← c.self.view_is) at c.requires.closed in
    let reads = rw (← c.self.view_is) at c.requires.read in
    let unfinished = rw (← c.self.view_is) at c.requires.unfinished in
    let up = rw (← c.self.view_is) at c.requires.behind in
    let e = c.insert_after-end.ensures in
    rw (← c.self.view_is) (end_grew _ _ _ _ _ _ _ _ c.self.invariant closed here e.stamps e.spare e.others e.after e.whole c.put.ensures _ c.args.read refl reads unfinished up
    c.set_end.ensures).inserted

pub returns-clause-finished : goal.returns-clause-finished
returns-clause-finished c =
    let here = there_is c.self.inside.order c.self.inside.table c.args.after.0 (rw (← c.self.view_is) at c.requires.here) in
    let closed = rw (← c.self.view_is) at c.requires.closed in
    let reads = rw (← c.self.view_is) at c.requires.read in
    let unfinished = rw (← c.self.view_is) at c.requires.unfinished in
    let up = rw (← c.self.view_is) at c.requires.behind in
    let e = c.insert_after-end.ensures in
    end_is_found _ _ _ _ _ _ _ _ c.self.invariant closed here e.stamps e.spare e.others e.after e.whole c.put.ensures _ c.args.read refl reads unfinished up c.set_end.ensures

pub returns-clause-ends : goal.returns-clause-ends
returns-clause-ends c =
    let here = there_is c.self.inside.order c.self.inside.table c.args.after.0 (rw (← c.self.view_is) at c.requires.here) in
    let closed = rw (← c.self.view_is) at c.requires.closed in
    let reads = rw (← c.self.view_is) at c.requires.read in
    let unfinished = rw (← c.self.view_is) at c.requires.unfinished in
    let up = rw (← c.self.view_is) at c.requires.behind in
    let e = c.insert_after-end.ensures in
    rw (← c.self.view_is) (end_others_are _ _ _ _ _ _ _ _ c.self.invariant closed here e.stamps e.spare e.others e.after e.whole c.put.ensures _ c.args.read refl reads unfinished up c.set_end.ensures)

pub returns-clause-closed : goal.returns-clause-closed
returns-clause-closed c =
    let here = there_is c.self.inside.order c.self.inside.table c.args.after.0 (rw (← c.self.view_is) at c.requires.here) in
    let closed = rw (← c.self.view_is) at c.requires.closed in
    let reads = rw (← c.self.view_is) at c.requires.read in
    let unfinished = rw (← c.self.view_is) at c.requires.unfinished in
    let up = rw (← c.self.view_is) at c.requires.behind in
    let e = c.insert_after-end.ensures in
    (end_grew _ _ _ _ _ _ _ _ c.self.invariant closed here e.stamps e.spare e.others e.after e.whole c.put.ensures _ c.args.read refl reads unfinished up c.set_end.ensures).closed

pub returns-clause-whole : goal.returns-clause-whole
returns-clause-whole c =
    let here = there_is c.self.inside.order c.self.inside.table c.args.after.0 (rw (← c.self.view_is) at c.requires.here) in
    let closed = rw (← c.self.view_is) at c.requires.closed in
    let reads = rw (← c.self.view_is) at c.requires.read in
    let unfinished = rw (← c.self.view_is) at c.requires.unfinished in
    let up = rw (← c.self.view_is) at c.requires.behind in
    let e = c.insert_after-end.ensures in
    trace-touched _ _ (end_grew _ _ _ _ _ _ _ _ c.self.invariant closed here e.stamps e.spare e.others e.after e.whole
    c.put.ensures _ c.args.read refl reads unfinished up c.set_end.ensures).sound.is_trace
