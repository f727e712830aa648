use Rattle.std.proofs.Common.{◌+◌, ap, List, arith, ◌∙◌}
use Rattle.ceal_order.specs.Stamps.{Listing}
use Rattle.ceal_trace.specs.Nodes.{Entry}
use Rattle.ceal_trace.specs.Keeping.{timeline}
use Rattle.ceal_trace.proofs.Changing.{spare_most, reserved, not_reserved, on_err_of, on_err_map}
use Rattle.ceal_trace.proofs.Keeps.{trace-touched}
use Rattle.ceal_trace.proofs.trace.Trace.widen.Goals as goal

pub invariant_of-self : goal.invariant_of-self
invariant_of-self c =
    (not_reserved _ _ _ _ c.self.invariant c.in_err-reserve.ensures.kept).0

pub returns-in_err-reserve-clause-nodes : goal.returns-in_err-reserve-clause-nodes
returns-in_err-reserve-clause-nodes c =
    rw (← c.self.view_is) (not_reserved _ _ _ _ c.self.invariant c.in_err-reserve.ensures.kept).1

pub returns-in_err-reserve-clause-err : goal.returns-in_err-reserve-clause-err
returns-in_err-reserve-clause-err c =
    on_err_of c.from_residual.result
    (rw (← c.self.view_is) (ap (λ (l : List Entry). record { nodes = l; spare = c.self.inside.order.spare; touched = c.self.inside.touched })
    (not_reserved _ _ _ _ c.self.invariant c.in_err-reserve.ensures.kept).1))

pub returns-in_err-reserve-clause-whole : goal.returns-in_err-reserve-clause-whole
returns-in_err-reserve-clause-whole c =
    trace-touched _ _ (not_reserved _ _ _ _ c.self.invariant c.in_err-reserve.ensures.kept).0.is_trace

pub invariant_of-self-2 : goal.invariant_of-self-2
invariant_of-self-2 c =
    let most = spare_most c.self.inside.order c.reserve-2.new.self
    (c.args.nodes + 63) c.saturating_add-room.result c.reserve-2.result c.reserve-2.ensures.few c.reserve-2.ensures.err c.reserve-2.ensures.whole (omega (arith, c.saturating_add-room.ensures)) in
    (reserved _ _ _ _ _ _ c.self.invariant c.reserve-2.ensures.stamps c.reserve-2.ensures.whole c.in_ok-reserve.ensures.kept c.in_ok-reserve.ensures.rows most).0

pub returns-clause-nodes : goal.returns-clause-nodes
returns-clause-nodes c =
    let most = spare_most c.self.inside.order c.reserve-2.new.self
    (c.args.nodes + 63) c.saturating_add-room.result c.reserve-2.result c.reserve-2.ensures.few c.reserve-2.ensures.err c.reserve-2.ensures.whole (omega (arith, c.saturating_add-room.ensures)) in
    rw (← c.self.view_is) (reserved _ _ _ _ _ _ c.self.invariant c.reserve-2.ensures.stamps c.reserve-2.ensures.whole c.in_ok-reserve.ensures.kept c.in_ok-reserve.ensures.rows most).1

pub returns-clause-err : goal.returns-clause-err
returns-clause-err c =
    let most = spare_most c.self.inside.order c.reserve-2.new.self
    (c.args.nodes + 63) c.saturating_add-room.result c.reserve-2.result c.reserve-2.ensures.few c.reserve-2.ensures.err c.reserve-2.ensures.whole (omega (arith, c.saturating_add-room.ensures)) in
    on_err_map c.reserve-2.result
    (λ same. rw (← c.self.view_is) (ap (λ (l : List Entry). record { nodes = l; spare = c.reserve-2.new.self.spare; touched = c.self.inside.touched })
    (reserved _ _ _ _ _ _ c.self.invariant c.reserve-2.ensures.stamps c.reserve-2.ensures.whole c.in_ok-reserve.ensures.kept c.in_ok-reserve.ensures.rows most).1
    ∙ ap (λ (o : Listing). record { nodes = (timeline c.self.inside.order c.self.inside.table).nodes; spare = o.spare; touched = c.self.inside.touched }) same))
    c.reserve-2.ensures.err

pub returns-clause-whole : goal.returns-clause-whole
returns-clause-whole c =
    let most = spare_most c.self.inside.order c.reserve-2.new.self
    (c.args.nodes + 63) c.saturating_add-room.result c.reserve-2.result c.reserve-2.ensures.few c.reserve-2.ensures.err c.reserve-2.ensures.whole (omega (arith, c.saturating_add-room.ensures)) in
    trace-touched _ _ (reserved _ _ _ _ _ _ c.self.invariant c.reserve-2.ensures.stamps c.reserve-2.ensures.whole c.in_ok-reserve.ensures.kept c.in_ok-reserve.ensures.rows most).0.is_trace
