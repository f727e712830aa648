use Rattle.std.proofs.Common.{◌≢◌, ◌≡◌, [], true, false, List, ℕ, length, refl, sym, ap, subst, ◌∙◌, arith}
use Rattle.std.proofs.lemmas.List.{with_items_is}
use Rattle.std.specs.Vec.{with_items}
use Rattle.ceal_order.specs.Stamps.{without}
use Rattle.ceal_order.specs.Rising.{IsRising}
use Rattle.ceal_memo.specs.declared.chains.Group.{Group}
use Rattle.ceal_memo.specs.Numbers.{list_at, hashes_in}
use Rattle.ceal_memo.specs.Lists.{has_stamps}
use Rattle.ceal_memo.specs.Chains.{blank, group_at, lists_of, with_list, with_one, next_at, stamped, Chained, IsLinked, IsEmptyAt, HasSpares}
use Rattle.ceal_memo.proofs.Spares.{spares-still, spares-emptied}
use Rattle.ceal_memo.proofs.Grouping.{set_here, is_empty, same_length, stamped_within}
use Rattle.ceal_memo.proofs.Listing.{list_of, still_linked, emptied, list_here, list_other, hashes_kept, not_empty}
use Rattle.ceal_memo.proofs.lists.Lists.take.Goals as goal

pub returns-then-is_empty_at-clause-here : goal.returns-then-is_empty_at-clause-here
returns-then-is_empty_at-clause-here c =
    let groups = c.self.inside.groups.items in
    let number = c.args.number in
    let empty : stamped groups number ≡ false = subst (λ (gs : List Group). stamped gs number ≡ false) c.deref.ensures.value (c.is_empty_at.ensures.0 c.if-is_empty_at.true) in
    let none : list_at (lists_of groups) number ≡ [] = list_of groups number ∙ is_empty (group_at groups number).list empty in
    rw (← c.self.view_is, none) refl

pub take_at-requires-clause-rising : goal.take_at-requires-clause-rising
take_at-requires-clause-rising c =
    let groups = c.self.inside.groups.items in
    subst (λ (gs : List Group). IsRising c.args.order.now.stamps (group_at gs c.args.number).list) (sym c.deref_mut.ensures.value)
    (subst (IsRising c.args.order.now.stamps) (list_of groups c.args.number) (rw (← c.self.view_is) at c.requires.rising))

pub let_go-requires-clause-chained : goal.let_go-requires-clause-chained
let_go-requires-clause-chained c =
    let groups = c.self.inside.groups.items in
    let heads = c.self.inside.heads.items in
    let new = c.take_at.new.groups in
    let number = c.args.number in
    let list = without c.args.stamp.0 (group_at groups number).list in
    let stamps : stamped groups number ≡ true = subst (λ (gs : List Group). stamped gs number ≡ true) c.deref.ensures.value (not_empty _ _ c.is_empty_at.ensures c.if-is_empty_at.false) in
    let within = stamped_within groups number stamps in
    let is : new ≡ with_list groups number list
    = c.take_at.ensures.list ∙ ap (λ (gs : List Group). with_list gs number (without c.args.stamp.0 (group_at gs number).list)) c.deref_mut.ensures.value in
    let gone : has_stamps list ≡ false = ap (λ (g : Group). has_stamps g.list) (sym (set_here groups number (record (group_at groups number) { list = list }) blank within))
    ∙ ap (λ (gs : List Group). stamped gs number) (sym is) ∙ c.take_at.ensures.empty.0 c.if-take_at.true in
    let value : length c.deref_mut.result.now ≡ length groups = ap (λ (gs : List Group). length gs) c.deref_mut.ensures.value in
    let long : length new ≡ length groups = omega arith in
    let back = with_items_is c.self.inside.groups new (long ∙ sym c.self.inside.groups.ok.0) in
    subst (λ (hs : List ℕ). Chained (length c.deref_mut-then-take_at-2.result.now) (with_one number (stamped c.deref_mut-then-take_at-2.result.now)) hs c.deref_mut-then-take_at-2.result.now)
    (sym c.deref_mut-then-take_at.ensures.value)
    (subst (λ (gs : List Group). Chained (length gs) (with_one number (stamped gs)) heads gs) (sym (c.deref_mut-then-take_at-2.ensures.value ∙ back ∙ is))
    (emptied groups number list within heads stamps gone c.self.invariant.linked))

pub invariant_of-self-else-take_at : goal.invariant_of-self-else-take_at
invariant_of-self-else-take_at c =
    let groups = c.self.inside.groups.items in
    let heads = c.self.inside.heads.items in
    let new = c.take_at.new.groups in
    let number = c.args.number in
    let list = without c.args.stamp.0 (group_at groups number).list in
    let stamps : stamped groups number ≡ true = subst (λ (gs : List Group). stamped gs number ≡ true) c.deref.ensures.value (not_empty _ _ c.is_empty_at.ensures c.if-is_empty_at.false) in
    let within = stamped_within groups number stamps in
    let is : new ≡ with_list groups number list
    = c.take_at.ensures.list ∙ ap (λ (gs : List Group). with_list gs number (without c.args.stamp.0 (group_at gs number).list)) c.deref_mut.ensures.value in
    let left : has_stamps list ≡ true = ap (λ (g : Group). has_stamps g.list) (sym (set_here groups number (record (group_at groups number) { list = list }) blank within))
    ∙ ap (λ (gs : List Group). stamped gs number) (sym is) ∙ not_empty _ _ c.take_at.ensures.empty c.if-take_at.false in
    let value : length c.deref_mut.result.now ≡ length groups = ap (λ (gs : List Group). length gs) c.deref_mut.ensures.value in
    let long : length new ≡ length groups = omega arith in
    let back = with_items_is c.self.inside.groups new (long ∙ sym c.self.inside.groups.ok.0) in
    record {
      linked = subst (λ (gs : List Group). IsLinked heads gs) (sym (back ∙ is)) (still_linked groups number list within heads (left ∙ sym stamps) c.self.invariant.linked);
      spares = subst (λ (gs : List Group). HasSpares gs c.self.inside.free) (sym (back ∙ is)) (spares-still groups number list within c.self.inside.free c.self.invariant.spares stamps left);
    }

-- the group that is empty now is the first of those that can be filled
pub invariant_of-self : goal.invariant_of-self
invariant_of-self c =
    let groups = c.self.inside.groups.items in
    let new = c.take_at.new.groups in
    let number = c.args.number in
    let free = c.self.inside.free in
    let list = without c.args.stamp.0 (group_at groups number).list in
    let stamps : stamped groups number ≡ true = subst (λ (gs : List Group). stamped gs number ≡ true) c.deref.ensures.value (not_empty _ _ c.is_empty_at.ensures c.if-is_empty_at.false) in
    let within = stamped_within groups number stamps in
    let is : new ≡ with_list groups number list
    = c.take_at.ensures.list ∙ ap (λ (gs : List Group). with_list gs number (without c.args.stamp.0 (group_at gs number).list)) c.deref_mut.ensures.value in
    let gone : has_stamps list ≡ false = ap (λ (g : Group). has_stamps g.list) (sym (set_here groups number (record (group_at groups number) { list = list }) blank within))
    ∙ ap (λ (gs : List Group). stamped gs number) (sym is) ∙ c.take_at.ensures.empty.0 c.if-take_at.true in
    let value : length c.deref_mut.result.now ≡ length groups = ap (λ (gs : List Group). length gs) c.deref_mut.ensures.value in
    let long : length new ≡ length groups = omega arith in
    let back = with_items_is c.self.inside.groups new (long ∙ sym c.self.inside.groups.ok.0) in
    let count : length c.let_go.new.groups ≡ length new = same_length _ _ c.let_go.ensures.lists ∙ ap (λ (gs : List Group). length gs) (c.deref_mut-then-take_at-2.ensures.value ∙ back) in
    let last = with_items_is (with_items c.self.inside.groups new) c.let_go.new.groups (count ∙ long ∙ sym c.self.inside.groups.ok.0) in
    let wide : length c.let_go.new.heads ≡ length c.self.inside.heads.items = c.let_go.auto.heads ∙ ap (λ (hs : List ℕ). length hs) c.deref_mut-then-take_at.ensures.value in
    let back_heads = with_items_is c.self.inside.heads c.let_go.new.heads (wide ∙ sym c.self.inside.heads.ok.0) in
    let at : c.deref_mut-then-take_at-2.result.now ≡ with_list groups number list = c.deref_mut-then-take_at-2.ensures.value ∙ back ∙ is in
    let next = subst (λ (gs : List Group). (n : ℕ) → n ≢ number → IsEmptyAt gs n → next_at c.let_go.new.groups n ≡ next_at gs n) at c.let_go.ensures.next in
    record {
      linked = subst (λ (gs : List Group). IsLinked (with_items c.self.inside.heads c.let_go.new.heads).items gs) (sym last)
          (subst (λ (hs : List ℕ). IsLinked hs c.let_go.new.groups) (sym back_heads) c.let_go.ensures.linked);
      spares = subst (λ (gs : List Group). HasSpares gs number) (sym last)
          (spares-emptied groups number list within free c.self.invariant.spares stamps gone c.let_go.new.groups (c.let_go.ensures.lists ∙ ap (λ (gs : List Group). lists_of gs) at) next
          c.let_go.ensures.own);
    }

-- the lists after each way out

pub returns-then-take_at-clause-hashes : goal.returns-then-take_at-clause-hashes
returns-then-take_at-clause-hashes c =
    let groups = c.self.inside.groups.items in
    let new = c.take_at.new.groups in
    let number = c.args.number in
    let list = without c.args.stamp.0 (group_at groups number).list in
    let is : new ≡ with_list groups number list
    = c.take_at.ensures.list ∙ ap (λ (gs : List Group). with_list gs number (without c.args.stamp.0 (group_at gs number).list)) c.deref_mut.ensures.value in
    let value : length c.deref_mut.result.now ≡ length groups = ap (λ (gs : List Group). length gs) c.deref_mut.ensures.value in
    let long : length new ≡ length groups = omega arith in
    let back = with_items_is c.self.inside.groups new (long ∙ sym c.self.inside.groups.ok.0) in
    let count : length c.let_go.new.groups ≡ length new = same_length _ _ c.let_go.ensures.lists ∙ ap (λ (gs : List Group). length gs) (c.deref_mut-then-take_at-2.ensures.value ∙ back) in
    let last = with_items_is (with_items c.self.inside.groups new) c.let_go.new.groups (count ∙ long ∙ sym c.self.inside.groups.ok.0) in
    rw (← c.self.view_is) (ap hashes_in
    (ap (λ (gs : List Group). lists_of gs) last ∙ c.let_go.ensures.lists ∙ ap (λ (gs : List Group). lists_of gs)
    (c.deref_mut-then-take_at-2.ensures.value ∙ back ∙ is)) ∙ hashes_kept groups number list)

pub returns-then-take_at-clause-here : goal.returns-then-take_at-clause-here
returns-then-take_at-clause-here c =
    let groups = c.self.inside.groups.items in
    let new = c.take_at.new.groups in
    let number = c.args.number in
    let list = without c.args.stamp.0 (group_at groups number).list in
    let stamps : stamped groups number ≡ true = subst (λ (gs : List Group). stamped gs number ≡ true) c.deref.ensures.value (not_empty _ _ c.is_empty_at.ensures c.if-is_empty_at.false) in
    let is : new ≡ with_list groups number list
    = c.take_at.ensures.list ∙ ap (λ (gs : List Group). with_list gs number (without c.args.stamp.0 (group_at gs number).list)) c.deref_mut.ensures.value in
    let value : length c.deref_mut.result.now ≡ length groups = ap (λ (gs : List Group). length gs) c.deref_mut.ensures.value in
    let long : length new ≡ length groups = omega arith in
    let back = with_items_is c.self.inside.groups new (long ∙ sym c.self.inside.groups.ok.0) in
    let count : length c.let_go.new.groups ≡ length new = same_length _ _ c.let_go.ensures.lists ∙ ap (λ (gs : List Group). length gs) (c.deref_mut-then-take_at-2.ensures.value ∙ back) in
    let last = with_items_is (with_items c.self.inside.groups new) c.let_go.new.groups (count ∙ long ∙ sym c.self.inside.groups.ok.0) in
    rw (← c.self.view_is) (ap (λ (ls : List (ℕ × List ℕ)). list_at ls number)
    (ap (λ (gs : List Group). lists_of gs) last ∙ c.let_go.ensures.lists ∙ ap (λ (gs : List Group). lists_of gs) (c.deref_mut-then-take_at-2.ensures.value ∙ back ∙ is))
    ∙ list_here groups number list (stamped_within groups number stamps) ∙ ap (without c.args.stamp.0) (sym (list_of groups number)))

pub returns-then-take_at-clause-others : goal.returns-then-take_at-clause-others
returns-then-take_at-clause-others c = λ i other.
    let groups = c.self.inside.groups.items in
    let new = c.take_at.new.groups in
    let number = c.args.number in
    let list = without c.args.stamp.0 (group_at groups number).list in
    let stamps : stamped groups number ≡ true = subst (λ (gs : List Group). stamped gs number ≡ true) c.deref.ensures.value (not_empty _ _ c.is_empty_at.ensures c.if-is_empty_at.false) in
    let is : new ≡ with_list groups number list
    = c.take_at.ensures.list ∙ ap (λ (gs : List Group). with_list gs number (without c.args.stamp.0 (group_at gs number).list)) c.deref_mut.ensures.value in
    let value : length c.deref_mut.result.now ≡ length groups = ap (λ (gs : List Group). length gs) c.deref_mut.ensures.value in
    let long : length new ≡ length groups = omega arith in
    let back = with_items_is c.self.inside.groups new (long ∙ sym c.self.inside.groups.ok.0) in
    let count : length c.let_go.new.groups ≡ length new = same_length _ _ c.let_go.ensures.lists ∙ ap (λ (gs : List Group). length gs) (c.deref_mut-then-take_at-2.ensures.value ∙ back) in
    let last = with_items_is (with_items c.self.inside.groups new) c.let_go.new.groups (count ∙ long ∙ sym c.self.inside.groups.ok.0) in
    rw (← c.self.view_is) (ap (λ (ls : List (ℕ × List ℕ)). list_at ls i)
    (ap (λ (gs : List Group). lists_of gs) last ∙ c.let_go.ensures.lists ∙ ap (λ (gs : List Group). lists_of gs) (c.deref_mut-then-take_at-2.ensures.value ∙ back ∙ is))
    ∙ list_other groups number list (stamped_within groups number stamps) i other)

pub returns-else-take_at-clause-hashes : goal.returns-else-take_at-clause-hashes
returns-else-take_at-clause-hashes c =
    let groups = c.self.inside.groups.items in
    let new = c.take_at.new.groups in
    let number = c.args.number in
    let list = without c.args.stamp.0 (group_at groups number).list in
    let is : new ≡ with_list groups number list
    = c.take_at.ensures.list ∙ ap (λ (gs : List Group). with_list gs number (without c.args.stamp.0 (group_at gs number).list)) c.deref_mut.ensures.value in
    let value : length c.deref_mut.result.now ≡ length groups = ap (λ (gs : List Group). length gs) c.deref_mut.ensures.value in
    let long : length new ≡ length groups = omega arith in
    let back = with_items_is c.self.inside.groups new (long ∙ sym c.self.inside.groups.ok.0) in
    rw (← c.self.view_is) (ap (λ (gs : List Group). hashes_in (lists_of gs)) (back ∙ is) ∙ hashes_kept groups number list)

pub returns-else-take_at-clause-here : goal.returns-else-take_at-clause-here
returns-else-take_at-clause-here c =
    let groups = c.self.inside.groups.items in
    let new = c.take_at.new.groups in
    let number = c.args.number in
    let list = without c.args.stamp.0 (group_at groups number).list in
    let stamps : stamped groups number ≡ true = subst (λ (gs : List Group). stamped gs number ≡ true) c.deref.ensures.value (not_empty _ _ c.is_empty_at.ensures c.if-is_empty_at.false) in
    let is : new ≡ with_list groups number list
    = c.take_at.ensures.list ∙ ap (λ (gs : List Group). with_list gs number (without c.args.stamp.0 (group_at gs number).list)) c.deref_mut.ensures.value in
    let value : length c.deref_mut.result.now ≡ length groups = ap (λ (gs : List Group). length gs) c.deref_mut.ensures.value in
    let long : length new ≡ length groups = omega arith in
    let back = with_items_is c.self.inside.groups new (long ∙ sym c.self.inside.groups.ok.0) in
    rw (← c.self.view_is) (ap (λ (gs : List Group). list_at (lists_of gs) number) (back ∙ is) ∙ list_here groups number list (stamped_within groups number stamps) ∙ ap (without c.args.stamp.0)
    (sym (list_of groups number)))

pub returns-else-take_at-clause-others : goal.returns-else-take_at-clause-others
returns-else-take_at-clause-others c = λ i other.
    let groups = c.self.inside.groups.items in
    let new = c.take_at.new.groups in
    let number = c.args.number in
    let list = without c.args.stamp.0 (group_at groups number).list in
    let stamps : stamped groups number ≡ true = subst (λ (gs : List Group). stamped gs number ≡ true) c.deref.ensures.value (not_empty _ _ c.is_empty_at.ensures c.if-is_empty_at.false) in
    let is : new ≡ with_list groups number list
    = c.take_at.ensures.list ∙ ap (λ (gs : List Group). with_list gs number (without c.args.stamp.0 (group_at gs number).list)) c.deref_mut.ensures.value in
    let value : length c.deref_mut.result.now ≡ length groups = ap (λ (gs : List Group). length gs) c.deref_mut.ensures.value in
    let long : length new ≡ length groups = omega arith in
    let back = with_items_is c.self.inside.groups new (long ∙ sym c.self.inside.groups.ok.0) in
    rw (← c.self.view_is) (ap (λ (gs : List Group). list_at (lists_of gs) i) (back ∙ is) ∙ list_other groups number list (stamped_within groups number stamps) i other)
