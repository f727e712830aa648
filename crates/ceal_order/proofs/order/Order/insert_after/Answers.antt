use Rattle.std.proofs.Common.{true, ◌≡◌}
use Rattle.ceal_order.specs.Stamps.{is_in}
use Rattle.ceal_order.specs.Links.{stamps_of}
use Rattle.ceal_order.proofs.Places.{inserted, place_new, new_in, below_of}
use Rattle.ceal_order.proofs.Chains.{line, order_is}
use Rattle.ceal_order.proofs.Inserting.{relabelled, ready, insert_view}
use Rattle.ceal_order.proofs.order.Order.insert_after.Goals as goal

pub fresh_label-label-requires-clause-line : goal.fresh_label-label-requires-clause-line
fresh_label-label-requires-clause-line c = line _ _ _ _ _ c.self.invariant

pub next_at-self-inside-requires : goal.next_at-self-inside-requires
next_at-self-inside-requires c =
    let here = rw (← c.self.view_is) at c.requires.here in
    let some = rw (← c.self.view_is) at c.requires.room in
    let mid = relabelled _ _ _ _ _ _ c.self.invariant c.fresh_label-label.ensures.same c.fresh_label-label.ensures.rising in
    rw c.deref.ensures.value (ready _ _ _ _ _ _ mid some here).new_in

pub splice-requires : goal.splice-requires
splice-requires c =
    let here = rw (← c.self.view_is) at c.requires.here in
    let some = rw (← c.self.view_is) at c.requires.room in
    let mid = relabelled _ _ _ _ _ _ c.self.invariant c.fresh_label-label.ensures.same c.fresh_label-label.ensures.rising in
    let r = ready _ _ _ _ _ _ mid some here in
    record { at = r.at_in; new = r.new_in; apart = r.apart; next = r.next_in; next_apart = r.next_apart }

pub invariant_of-self : goal.invariant_of-self
invariant_of-self c =
    let here = rw (← c.self.view_is) at c.requires.here in
    let some = rw (← c.self.view_is) at c.requires.room in
    let mid = relabelled _ _ _ _ _ _ c.self.invariant c.fresh_label-label.ensures.same c.fresh_label-label.ensures.rising in
    let done = insert_view _ _ _ _ _ _ _ _ mid some here c.splice.ensures c.fresh_label-label.ensures.between in
    rw (c.next_at-self-inside.ensures, c.deref.ensures.value) done.1

pub returns-clause-new : goal.returns-clause-new
returns-clause-new c =
    let here = rw (← c.self.view_is) at c.requires.here in
    let some = rw (← c.self.view_is) at c.requires.room in
    rw (← c.self.view_is) (ready _ _ _ _ _ _ c.self.invariant some here).fresh

pub returns-clause-stamps : goal.returns-clause-stamps
returns-clause-stamps c =
    let here = rw (← c.self.view_is) at c.requires.here in
    let some = rw (← c.self.view_is) at c.requires.room in
    let mid = relabelled _ _ _ _ _ _ c.self.invariant c.fresh_label-label.ensures.same c.fresh_label-label.ensures.rising in
    rw (← c.self.view_is) (insert_view _ _ _ _ _ _ _ _ mid some here c.splice.ensures c.fresh_label-label.ensures.between).0

pub returns-clause-others : goal.returns-clause-others
returns-clause-others c =
    let here = rw (← c.self.view_is) at c.requires.here in
    let some = rw (← c.self.view_is) at c.requires.room in
    let mid = relabelled _ _ _ _ _ _ c.self.invariant c.fresh_label-label.ensures.same c.fresh_label-label.ensures.rising in
    let now = (insert_view _ _ _ _ _ _ _ _ mid some here c.splice.ensures c.fresh_label-label.ensures.between).0 in
    let fresh = (ready _ _ _ _ _ _ c.self.invariant some here).fresh in
    rw (← c.self.view_is, now) (inserted _ _ _ here fresh)

pub returns-clause-after : goal.returns-clause-after
returns-clause-after c =
    let here = rw (← c.self.view_is) at c.requires.here in
    let some = rw (← c.self.view_is) at c.requires.room in
    let mid = relabelled _ _ _ _ _ _ c.self.invariant c.fresh_label-label.ensures.same c.fresh_label-label.ensures.rising in
    let now = (insert_view _ _ _ _ _ _ _ _ mid some here c.splice.ensures c.fresh_label-label.ensures.between).0 in
    let fresh = (ready _ _ _ _ _ _ c.self.invariant some here).fresh in
    rw now (place_new c.args.stamp.0 c.self.inside.free (stamps_of c.self.inside.links.items) here fresh)

pub returns-clause-whole : goal.returns-clause-whole
returns-clause-whole c =
    let here = rw (← c.self.view_is) at c.requires.here in
    let some = rw (← c.self.view_is) at c.requires.room in
    let mid = relabelled _ _ _ _ _ _ c.self.invariant c.fresh_label-label.ensures.same c.fresh_label-label.ensures.rising in
    order_is _ _ _ _ _ (insert_view _ _ _ _ _ _ _ _ mid some here c.splice.ensures c.fresh_label-label.ensures.between).1

pub returns-clause-below : goal.returns-clause-below
returns-clause-below c =
    let here = rw (← c.self.view_is) at c.requires.here in
    let some = rw (← c.self.view_is) at c.requires.room in
    let mid = relabelled _ _ _ _ _ _ c.self.invariant c.fresh_label-label.ensures.same c.fresh_label-label.ensures.rising in
    let done = insert_view _ _ _ _ _ _ _ _ mid some here c.splice.ensures c.fresh_label-label.ensures.between in
    let order = order_is _ _ _ _ _ done.1 in
    let there : is_in c.self.inside.free (stamps_of c.splice.new.links.items) ≡ true = rw done.0 (new_in c.args.stamp.0 c.self.inside.free (stamps_of c.self.inside.links.items) here) in
    below_of _ _ _ there order.below
