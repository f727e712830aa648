use Rattle.std.proofs.Common.{◌≡◌, ◌≢◌, ◌<◌, true, false, inl, inr, List, ℕ, length, sym, ap, subst, ◌∙◌, arith}
use Rattle.std.proofs.lemmas.List.{with_items_is}
use Rattle.ceal_order.specs.Stamps.{is_in}
use Rattle.ceal_order.specs.Rising.{IsRising, count_before}
use Rattle.ceal_memo.specs.declared.chains.Group.{Group}
use Rattle.ceal_memo.specs.Lists.{stamps_at, with_stamp}
use Rattle.ceal_memo.specs.Numbers.{IsEntered}
use Rattle.ceal_memo.specs.Chains.{group_at, lists_of, with_list, stamped, IsLinked, HasSpares}
use Rattle.ceal_memo.proofs.Spares.{spares-still, same-uses}
use Rattle.ceal_memo.proofs.Adding.{inserted_some}
use Rattle.ceal_memo.proofs.Grouping.{some_is, length_lists}
use Rattle.ceal_memo.proofs.Listing.{list_found, none_found, still_linked, again, answered}
use Rattle.ceal_memo.proofs.lists.Lists.put.Goals as goal

pub insert_at-requires-clause-rising : goal.insert_at-requires-clause-rising
insert_at-requires-clause-rising c =
    let groups = c.self.inside.groups.items in
    let number = c.in-Some.number in
    let within = subst (λ (gs : List Group). number < length gs) c.deref-2.ensures.value c.in-Some.ensures.within in
    let stamps = subst (λ (gs : List Group). stamped gs number ≡ true) c.deref-2.ensures.value c.in-Some.ensures.stamps in
    let hash = subst (λ (gs : List Group). (group_at gs number).hash ≡ c.args.hash) c.deref-2.ensures.value c.in-Some.ensures.hash in
    let found = list_found groups number c.args.hash (rw (← c.self.view_is) at c.requires.unique) within stamps hash in
    subst (λ (gs : List Group). IsRising c.args.order.now.stamps (group_at gs number).list) (sym c.deref_mut.ensures.value)
    (subst (IsRising c.args.order.now.stamps) found (rw (← c.self.view_is) at c.requires.rising))

pub insert_at-requires-clause-absent : goal.insert_at-requires-clause-absent
insert_at-requires-clause-absent c =
    let groups = c.self.inside.groups.items in
    let number = c.in-Some.number in
    let within = subst (λ (gs : List Group). number < length gs) c.deref-2.ensures.value c.in-Some.ensures.within in
    let stamps = subst (λ (gs : List Group). stamped gs number ≡ true) c.deref-2.ensures.value c.in-Some.ensures.stamps in
    let hash = subst (λ (gs : List Group). (group_at gs number).hash ≡ c.args.hash) c.deref-2.ensures.value c.in-Some.ensures.hash in
    let found = list_found groups number c.args.hash (rw (← c.self.view_is) at c.requires.unique) within stamps hash in
    subst (λ (gs : List Group). is_in c.args.stamp.0 (group_at gs number).list ≡ false) (sym c.deref_mut.ensures.value)
    (subst (λ (l : List ℕ). is_in c.args.stamp.0 l ≡ false) found (rw (← c.self.view_is) at c.requires.absent))

pub invariant_of-self-in-Some : goal.invariant_of-self-in-Some
invariant_of-self-in-Some c =
    let groups = c.self.inside.groups.items in
    let heads = c.self.inside.heads.items in
    let new = c.insert_at.new.groups in
    let number = c.in-Some.number in
    let order = c.args.order.now.stamps in
    let list = with_stamp order c.args.stamp.0 (group_at groups number).list in
    let within = subst (λ (gs : List Group). number < length gs) c.deref-2.ensures.value c.in-Some.ensures.within in
    let stamps = subst (λ (gs : List Group). stamped gs number ≡ true) c.deref-2.ensures.value c.in-Some.ensures.stamps in
    let value : length c.deref_mut.result.now ≡ length groups = ap (λ (gs : List Group). length gs) c.deref_mut.ensures.value in
    let long : length new ≡ length groups = omega arith in
    let back = with_items_is c.self.inside.groups new (long ∙ sym c.self.inside.groups.ok.0) in
    let some = some_is list (inserted_some c.args.stamp.0 (count_before order c.args.stamp.0 (group_at groups number).list) (group_at groups number).list) in
    let free = c.self.inside.free in
    let now = sym (ap (λ (gs : List Group). with_list gs number (with_stamp order c.args.stamp.0 (group_at gs number).list)) c.deref_mut.ensures.value) in
    record {
      linked = subst (λ (gs : List Group). IsLinked heads gs) (sym back) (elim (answered c.insert_at.result c.insert_at.ensures.ok c.insert_at.ensures.err) [
        | inl ok ↦ subst (λ (gs : List Group). IsLinked heads gs) (now ∙ sym ok) (still_linked groups number list within heads (some ∙ sym stamps) c.self.invariant.linked)
        | inr err ↦ subst (λ (gs : List Group). IsLinked heads gs) (sym (err ∙ c.deref_mut.ensures.value)) c.self.invariant.linked
      ]);
      spares = subst (λ (gs : List Group). HasSpares gs free) (sym back) (elim (answered c.insert_at.result c.insert_at.ensures.ok c.insert_at.ensures.err) [
        | inl ok ↦ subst (λ (gs : List Group). HasSpares gs free) (now ∙ sym ok) (spares-still groups number list within free c.self.invariant.spares stamps some)
        | inr err ↦ subst (λ (gs : List Group). HasSpares gs free) (sym (err ∙ c.deref_mut.ensures.value)) c.self.invariant.spares
      ]);
    }

-- the hash has a list already
pub returns-in_ok-insert_at-in-Some-clause-room : goal.returns-in_ok-insert_at-in-Some-clause-room
returns-in_ok-insert_at-in-Some-clause-room c =
    let groups = c.self.inside.groups.items in
    let new = c.insert_at.new.groups in
    let value : length c.deref_mut.result.now ≡ length groups = ap (λ (gs : List Group). length gs) c.deref_mut.ensures.value in
    let long : length new ≡ length groups = omega arith in
    let back = with_items_is c.self.inside.groups new (long ∙ sym c.self.inside.groups.ok.0) in
    rw (← c.self.view_is) (same-uses (lists_of groups) _ (length_lists _ ∙ (ap (λ (gs : List Group). length gs) back ∙ (long ∙ sym (length_lists groups)))))

pub enter-requires-clause-absent : goal.enter-requires-clause-absent
enter-requires-clause-absent c =
    none_found c.self.inside.groups.items c.args.hash
    (subst (λ (gs : List Group). (n : ℕ) → stamped gs n ≡ true → (group_at gs n).hash ≢ c.args.hash) c.deref-2.ensures.value c.in-None.ensures.none)

pub returns-in_ok-insert_at-in-Some-clause-ok : goal.returns-in_ok-insert_at-in-Some-clause-ok
returns-in_ok-insert_at-in-Some-clause-ok c =
    let groups = c.self.inside.groups.items in
    let new = c.insert_at.new.groups in
    let number = c.in-Some.number in
    let order = c.args.order.now.stamps in
    let lists = lists_of groups in
    let within = subst (λ (gs : List Group). number < length gs) c.deref-2.ensures.value c.in-Some.ensures.within in
    let stamps = subst (λ (gs : List Group). stamped gs number ≡ true) c.deref-2.ensures.value c.in-Some.ensures.stamps in
    let hash = subst (λ (gs : List Group). (group_at gs number).hash ≡ c.args.hash) c.deref-2.ensures.value c.in-Some.ensures.hash in
    let unique = rw (← c.self.view_is) at c.requires.unique in
    let found = list_found groups number c.args.hash unique within stamps hash in
    let list = with_stamp order c.args.stamp.0 (stamps_at lists c.args.hash) in
    let value : length c.deref_mut.result.now ≡ length groups = ap (λ (gs : List Group). length gs) c.deref_mut.ensures.value in
    let long : length new ≡ length groups = omega arith in
    let back = with_items_is c.self.inside.groups new (long ∙ sym c.self.inside.groups.ok.0) in
    let is : new ≡ with_list groups number list
    = c.in_ok-insert_at-in-Some.ensures.ok ∙ ap (λ (gs : List Group). with_list gs number (with_stamp order c.args.stamp.0 (group_at gs number).list)) c.deref_mut.ensures.value
    ∙ ap (λ (l : List ℕ). with_list groups number (with_stamp order c.args.stamp.0 l)) (sym found) in
    rw (← c.self.view_is) (subst (λ (gs : List Group). IsEntered lists (lists_of gs) c.args.hash number list) (sym (back ∙ is)) (again groups number list within c.args.hash unique stamps hash))

pub returns-in_ok-number-in-None-clause-ok : goal.returns-in_ok-number-in-None-clause-ok
returns-in_ok-number-in-None-clause-ok c =
    let lists = lists_of c.self.inside.groups.items in
    let order = c.args.order.now.stamps in
    let none = none_found c.self.inside.groups.items c.args.hash
    (subst (λ (gs : List Group). (n : ℕ) → stamped gs n ≡ true → (group_at gs n).hash ≢ c.args.hash) c.deref-2.ensures.value c.in-None.ensures.none) in
    rw (← c.self.view_is) (subst (λ (l : List ℕ). IsEntered lists (lists_of c.enter.new.groups.items) c.args.hash c.in_ok-number-in-None.number (with_stamp order c.args.stamp.0 l))
    (sym none) c.in_ok-number-in-None.ensures.ok)
