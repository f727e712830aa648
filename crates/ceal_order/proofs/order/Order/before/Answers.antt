use Rattle.std.proofs.lemmas.Bool.{ltb-true, lt-ltb}
use Rattle.ceal_order.proofs.Places.{below_of, place_tells}
use Rattle.ceal_order.proofs.Chains.{AllBelow-front, label_place}
use Rattle.ceal_order.proofs.order.Order.before.Goals as goal

pub label_at-requires : goal.label_at-requires
label_at-requires c =
    let here = rw (← c.self.view_is) at c.requires.a_in in
    rw c.deref.ensures.value (below_of _ _ _ here (AllBelow-front _ _ _ c.self.invariant.within))

pub label_at-requires-2 : goal.label_at-requires-2
label_at-requires-2 c =
    let here = rw (← c.self.view_is) at c.requires.b_in in
    rw c.deref-2.ensures.value (below_of _ _ _ here (AllBelow-front _ _ _ c.self.invariant.within))

pub returns-clause-one_place : goal.returns-clause-one_place
returns-clause-one_place c = place_tells _ _ c.args.self.now.stamps c.requires.a_in c.requires.b_in

pub returns-clause-before : goal.returns-clause-before
returns-clause-before c =
    let a_in = rw (← c.self.view_is) at c.requires.a_in in
    let b_in = rw (← c.self.view_is) at c.requires.b_in in
    let a = rw c.deref.ensures.value at c.label_at.ensures in
    let b = rw c.deref-2.ensures.value at c.label_at-2.ensures in
    rw (← c.self.view_is, a, b) (
    let same = label_place _ _ _ c.args.a.0 c.args.b.0 c.self.invariant.rising a_in b_in in
    (λ h. same.0 (ltb-true _ _ h), λ h. lt-ltb _ _ (same.1 h)))
