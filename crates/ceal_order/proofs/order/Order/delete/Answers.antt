use Rattle.std.proofs.Common.{arith}
use Rattle.ceal_order.proofs.Places.{deleted}
use Rattle.ceal_order.proofs.Chains.{Distinct-front, order_is}
use Rattle.ceal_order.proofs.Removing.{removable, delete_view}
use Rattle.ceal_order.proofs.order.Order.delete.Goals as goal

pub unlink-requires : goal.unlink-requires
unlink-requires c =
    let here = rw (← c.self.view_is) at c.requires.here in
    let other = rw (← c.self.view_is) at c.requires.not_first in
    let r = removable _ _ _ c.args.stamp.0 _ _ c.self.invariant here other in
    record { at = r.at_in; prev = r.prev_in; apart = r.apart; next = r.next_in; next_apart = r.next_apart }

pub overflow_add-self : goal.overflow_add-self
overflow_add-self c =
    let here = rw (← c.self.view_is) at c.requires.here in
    let other = rw (← c.self.view_is) at c.requires.not_first in
    let r = removable _ _ _ c.args.stamp.0 _ _ c.self.invariant here other in
    omega (arith, r.fits)

pub invariant_of-self : goal.invariant_of-self
invariant_of-self c =
    let here = rw (← c.self.view_is) at c.requires.here in
    let other = rw (← c.self.view_is) at c.requires.not_first in
    (delete_view _ _ _ _ _ _ _ c.self.invariant here other c.unlink.ensures).1

pub returns-clause-stamps : goal.returns-clause-stamps
returns-clause-stamps c =
    let here = rw (← c.self.view_is) at c.requires.here in
    let other = rw (← c.self.view_is) at c.requires.not_first in
    rw (← c.self.view_is) (delete_view _ _ _ _ _ _ _ c.self.invariant here other c.unlink.ensures).0

pub returns-clause-others : goal.returns-clause-others
returns-clause-others c =
    let here = rw (← c.self.view_is) at c.requires.here in
    let other = rw (← c.self.view_is) at c.requires.not_first in
    let left = (delete_view _ _ _ _ _ _ _ c.self.invariant here other c.unlink.ensures).0 in
    rw (← c.self.view_is, left) (deleted c.args.stamp.0 _ here (Distinct-front _ _ c.self.invariant.distinct))

pub returns-clause-whole : goal.returns-clause-whole
returns-clause-whole c =
    let here = rw (← c.self.view_is) at c.requires.here in
    let other = rw (← c.self.view_is) at c.requires.not_first in
    order_is _ _ _ _ _ (delete_view _ _ _ _ _ _ _ c.self.invariant here other c.unlink.ensures).1
