use Rattle.std.proofs.Common.{◌≡◌, ◌≤◌, ◌<◌, ◌++◌, ◌∷◌, [], List, ℕ, suc, length, sym, ap, subst, ◌∙◌, arith}
use Rattle.std.proofs.lemmas.List.{with_items_is}
use Rattle.std.specs.Vec.{with_items}
use Rattle.ceal_memo.specs.declared.chains.Group.{Group}
use Rattle.ceal_memo.specs.Chains.{lists_of, stamped, Chained, IsLinked}
use Rattle.ceal_memo.proofs.Grouping.{length_pushed, same_length, lists_push}
use Rattle.ceal_memo.specs.Lists.{has_stamps}
use Rattle.std.proofs.Common.{true}
use Rattle.ceal_memo.specs.Chains.{no_group, HasSpares}
use Rattle.ceal_memo.proofs.Spares.{spares-linked, spares-pushed, spares-chained, pushed-stamped}
use Rattle.ceal_memo.proofs.Linking.{pushed}
use Rattle.ceal_memo.proofs.lists.add.Goals as goal

pub chain_first-requires-clause-chained : goal.chain_first-requires-clause-chained
chain_first-requires-clause-chained c =
    let groups = c.make_buckets.new.groups in
    let own : Group = record { hash = c.args.hash; next = 0; list = c.one-list.result } in
    let long : length groups ≡ length c.args.groups.now.items = same_length _ _ c.make_buckets.ensures.lists ∙ ap (λ (gs : List Group). length gs) c.deref_mut.ensures.value in
    let back = with_items_is c.args.groups.now groups (long ∙ sym c.args.groups.now.ok.0) in
    let last = c.deref_mut-3.ensures.value ∙ c.push_reserved.ensures.items ∙ ap (λ (gs : List Group). gs ++ own ∷ []) (c.make_room.ensures.same ∙ back) in
    let number : c.len-number.result ≡ length groups = c.len-number.ensures ∙ c.args.groups.now.ok.0 ∙ sym long in
    subst (λ (gs : List Group). Chained c.len-number.result (stamped gs) c.deref_mut-2.result.now gs) (sym last)
    (subst (λ (hs : List ℕ). Chained c.len-number.result (stamped (groups ++ own ∷ [])) hs (groups ++ own ∷ [])) (sym c.deref_mut-2.ensures.value)
    (subst (λ (n : ℕ). Chained n (stamped (groups ++ own ∷ [])) c.make_buckets.new.heads.items (groups ++ own ∷ [])) (sym number)
    (pushed c.make_buckets.new.heads.items groups own c.make_buckets.ensures.linked.chained)))

pub returns-clause-ok : goal.returns-clause-ok
returns-clause-ok c =
    let groups = c.make_buckets.new.groups in
    let own : Group = record { hash = c.args.hash; next = 0; list = c.one-list.result } in
    let long : length groups ≡ length c.args.groups.now.items = same_length _ _ c.make_buckets.ensures.lists ∙ ap (λ (gs : List Group). length gs) c.deref_mut.ensures.value in
    let back = with_items_is c.args.groups.now groups (long ∙ sym c.args.groups.now.ok.0) in
    let count : length c.chain_first.new.groups
    ≡ length c.push_reserved.new.self.items = same_length _ _ c.chain_first.ensures.lists ∙ ap (λ (gs : List Group). length gs) c.deref_mut-3.ensures.value in
    let back_last = with_items_is c.push_reserved.new.self c.chain_first.new.groups (count ∙ sym c.push_reserved.new.self.ok.0) in
    ap (λ (gs : List Group). lists_of gs) back_last ∙ c.chain_first.ensures.lists
    ∙ ap (λ (gs : List Group). lists_of gs) (c.deref_mut-3.ensures.value ∙ c.push_reserved.ensures.items ∙ ap (λ (gs : List Group). gs ++ own ∷ []) (c.make_room.ensures.same ∙ back))
    ∙ lists_push groups own
    ∙ ap (λ (l : List ℕ). lists_of groups ++ (c.args.hash, l) ∷ []) c.one-list.ensures
    ∙ ap (λ (ls : List (ℕ × List ℕ)). ls ++ (c.args.hash, c.args.stamp.0 ∷ []) ∷ []) (c.make_buckets.ensures.lists ∙ ap (λ (gs : List Group). lists_of gs) c.deref_mut.ensures.value)

pub returns-clause-linked : goal.returns-clause-linked
returns-clause-linked c =
    let groups = c.make_buckets.new.groups in
    let heads = c.make_buckets.new.heads in
    let own : Group = record { hash = c.args.hash; next = 0; list = c.one-list.result } in
    let long : length groups ≡ length c.args.groups.now.items = same_length _ _ c.make_buckets.ensures.lists ∙ ap (λ (gs : List Group). length gs) c.deref_mut.ensures.value in
    let back = with_items_is c.args.groups.now groups (long ∙ sym c.args.groups.now.ok.0) in
    let last = c.push_reserved.ensures.items ∙ ap (λ (gs : List Group). gs ++ own ∷ []) (c.make_room.ensures.same ∙ back) in
    let count : length c.chain_first.new.groups
    ≡ length c.push_reserved.new.self.items = same_length _ _ c.chain_first.ensures.lists ∙ ap (λ (gs : List Group). length gs) c.deref_mut-3.ensures.value in
    let back_last = with_items_is c.push_reserved.new.self c.chain_first.new.groups (count ∙ sym c.push_reserved.new.self.ok.0) in
    let size : length c.chain_first.new.heads ≡ length heads.items = c.chain_first.ensures.size ∙ ap (λ (hs : List ℕ). length hs) c.deref_mut-2.ensures.value in
    let back_heads = with_items_is heads c.chain_first.new.heads (size ∙ sym heads.ok.0) in
    let number : c.len-number.result ≡ length groups = c.len-number.ensures ∙ c.args.groups.now.ok.0 ∙ sym long in
    let all : length c.push_reserved.new.self.items ≡ suc (length groups) = ap (λ (gs : List Group). length gs) last ∙ length_pushed groups own in
    let whole : suc c.len-number.result ≡ length c.chain_first.new.groups = ap suc number ∙ sym (count ∙ all) in
    let room : length groups < length heads.items = c.in_ok-make_buckets.ensures.room in
    let few : length c.chain_first.new.groups ≤ length c.chain_first.new.heads = omega arith in
    subst (λ (hs : List ℕ). IsLinked hs (with_items c.push_reserved.new.self c.chain_first.new.groups).items) (sym back_heads)
    (subst (λ (gs : List Group). IsLinked c.chain_first.new.heads gs) (sym back_last)
    (record {
      chained = subst (λ (n : ℕ). Chained n (stamped c.chain_first.new.groups) c.chain_first.new.heads c.chain_first.new.groups) whole c.chain_first.ensures.chained;
      few = few;
    }))

-- more buckets change no link of a group without stamps
pub returns-in_err-make_buckets-clause-spares : goal.returns-in_err-make_buckets-clause-spares
returns-in_err-make_buckets-clause-spares c = λ free h.
    let groups = c.make_buckets.new.groups in
    let long : length groups ≡ length c.args.groups.now.items = same_length _ _ c.make_buckets.ensures.lists ∙ ap (λ (gs : List Group). length gs) c.deref_mut.ensures.value in
    let back = with_items_is c.args.groups.now groups (long ∙ sym c.args.groups.now.ok.0) in
    subst (λ (gs : List Group). HasSpares gs free) (sym back)
    (spares-linked c.deref_mut.result.now groups free c.make_buckets.ensures.lists c.make_buckets.ensures.next (subst (λ (gs : List Group). HasSpares gs free) (sym c.deref_mut.ensures.value) h))

pub returns-in_err-make_room-clause-spares : goal.returns-in_err-make_room-clause-spares
returns-in_err-make_room-clause-spares c = λ free h.
    let groups = c.make_buckets.new.groups in
    let long : length groups ≡ length c.args.groups.now.items = same_length _ _ c.make_buckets.ensures.lists ∙ ap (λ (gs : List Group). length gs) c.deref_mut.ensures.value in
    let back = with_items_is c.args.groups.now groups (long ∙ sym c.args.groups.now.ok.0) in
    subst (λ (gs : List Group). HasSpares gs free) (sym (c.make_room.ensures.same ∙ back))
    (spares-linked c.deref_mut.result.now groups free c.make_buckets.ensures.lists c.make_buckets.ensures.next (subst (λ (gs : List Group). HasSpares gs free) (sym c.deref_mut.ensures.value) h))

-- the new group has stamps
pub returns-clause-spares : goal.returns-clause-spares
returns-clause-spares c = λ free h.
    let groups = c.make_buckets.new.groups in
    let own : Group = record { hash = c.args.hash; next = 0; list = c.one-list.result } in
    let long : length groups ≡ length c.args.groups.now.items = same_length _ _ c.make_buckets.ensures.lists ∙ ap (λ (gs : List Group). length gs) c.deref_mut.ensures.value in
    let back = with_items_is c.args.groups.now groups (long ∙ sym c.args.groups.now.ok.0) in
    let count : length c.chain_first.new.groups
    ≡ length c.push_reserved.new.self.items = same_length _ _ c.chain_first.ensures.lists ∙ ap (λ (gs : List Group). length gs) c.deref_mut-3.ensures.value in
    let back_last = with_items_is c.push_reserved.new.self c.chain_first.new.groups (count ∙ sym c.push_reserved.new.self.ok.0) in
    let last : c.deref_mut-3.result.now ≡ groups ++ own ∷ []
    = c.deref_mut-3.ensures.value ∙ c.push_reserved.ensures.items ∙ ap (λ (gs : List Group). gs ++ own ∷ []) (c.make_room.ensures.same ∙ back) in
    let number : c.len-number.result ≡ length groups = c.len-number.ensures ∙ c.args.groups.now.ok.0 ∙ sym long in
    let some : has_stamps own.list ≡ true = ap has_stamps c.one-list.ensures in
    let fewer = c.if-number-ge-MOST_LISTS.false in
    let few : length groups < no_group = omega (arith, number, fewer) in
    let stamps : stamped c.deref_mut-3.result.now c.len-number.result ≡ true
    = subst (λ (gs : List Group). stamped gs c.len-number.result ≡ true) (sym last) (subst (λ (n : ℕ). stamped (groups ++ own ∷ []) n ≡ true) (sym number) (pushed-stamped groups own some)) in
    let was = spares-linked c.deref_mut.result.now groups free c.make_buckets.ensures.lists c.make_buckets.ensures.next
    (subst (λ (gs : List Group). HasSpares gs free) (sym c.deref_mut.ensures.value) h) in
    subst (λ (gs : List Group). HasSpares gs free) (sym back_last)
    (spares-chained c.deref_mut-3.result.now c.chain_first.new.groups c.len-number.result free stamps c.chain_first.ensures.lists c.chain_first.ensures.next
    (subst (λ (gs : List Group). HasSpares gs free) (sym last) (spares-pushed groups own free some few was)))
