use Rattle.std.proofs.Common.{sym, ◌∙◌, ◌≢◌, ◌≡◌, Some, None}
use Rattle.ceal_order.specs.Stamps.{successor}
use Rattle.ceal_order.specs.Links.{next_of, no_link, stamps_of}
use Rattle.ceal_order.proofs.Places.{below_of, place_below, successor_place, last_place}
use Rattle.ceal_order.proofs.Chains.{AllBelow-front, Distinct-front, successor_at_end, successor_inside}
use Rattle.ceal_order.proofs.order.Order.next.Goals as goal

pub next_at-next-requires : goal.next_at-next-requires
next_at-next-requires c =
    let here = rw (← c.self.view_is) at c.requires in
    rw c.deref.ensures.value (below_of _ _ _ here (AllBelow-front _ _ _ c.self.invariant.within))

pub returns-then-next : goal.returns-then-next
returns-then-next c =
    let here = rw (← c.self.view_is) at c.requires in
    let next = rw c.deref.ensures.value at c.next_at-next.ensures in
    let none : successor c.args.stamp.0 (stamps_of c.self.inside.links.items) ≡ None =
    successor_at_end _ _ _ _ _ c.self.invariant.few (AllBelow-front _ _ _ c.self.invariant.within) c.self.invariant.live here (sym next ∙ c.if-next.true) in
    rw (← c.self.view_is) (record { next = tt; next_in = tt; after = tt; inside = tt; last = none; at_end = last_place _ _ here none })

pub returns-else-next : goal.returns-else-next
returns-else-next c =
    let here = rw (← c.self.view_is) at c.requires in
    let next = rw c.deref.ensures.value at c.next_at-next.ensures in
    let inside : next_of c.self.inside.links.items c.args.stamp.0 ≢ no_link = λ e. c.if-next.false (next ∙ e) in
    let some : successor c.args.stamp.0 (stamps_of c.self.inside.links.items) ≡ Some c.next_at-next.result =
    rw next (successor_inside _ _ _ _ _ c.self.invariant.few (AllBelow-front _ _ _ c.self.invariant.within) c.self.invariant.live here inside) in
    let there = successor_place _ _ _ (Distinct-front _ _ c.self.invariant.distinct) some in
    rw (← c.self.view_is) (record { next = some; next_in = there.0; after = there.1; inside = place_below _ _ there.0; last = tt; at_end = tt })
