use Rattle.std.proofs.Common.{◌≡◌, ◌<◌, ◌++◌, ◌∷◌, [], false, List, ℕ, length, set, sym, ap, subst, ◌∙◌}
use Rattle.std.proofs.lemmas.List.{with_items_is}
use Rattle.ceal_memo.specs.declared.chains.Group.{Group}
use Rattle.ceal_memo.specs.Numbers.{IsEntered}
use Rattle.ceal_memo.specs.Chains.{lists_of, stamped, IsEmptyAt}
use Rattle.ceal_memo.proofs.Spares.{first-spare, added-uses}
use Rattle.ceal_memo.proofs.Entering.{entered_last}
use Rattle.ceal_memo.proofs.Grouping.{length_set, length_lists}
use Rattle.ceal_memo.proofs.Listing.{filled_again}
use Rattle.ceal_memo.proofs.lists.enter.Goals as goal

pub returns-in-Some-clause-ok : goal.returns-in-Some-clause-ok
returns-in-Some-clause-ok c =
    let groups = c.args.groups.now in
    let new = c.refill.new.groups in
    let number = c.in-Some.number in
    let stamps = c.args.stamp.0 ∷ [] in
    let lists : lists_of new ≡ set (lists_of groups.items) number (c.args.hash, stamps)
    = c.refill.ensures.lists ∙ ap (λ (gs : List Group). set (lists_of gs) number (c.args.hash, c.one-list.result)) c.deref_mut-in-Some.ensures.value
    ∙ ap (λ (l : List ℕ). set (lists_of groups.items) number (c.args.hash, l)) c.one-list.ensures in
    let long : length new ≡ length groups.items
    = sym (length_lists new) ∙ ap (λ (ls : List (ℕ × List ℕ)). length ls) lists ∙ length_set (lists_of groups.items) number (c.args.hash, stamps) ∙ length_lists groups.items in
    let back = with_items_is groups new (long ∙ sym groups.ok.0) in
    let spare = subst (IsEmptyAt groups.items) (sym c.in-Some.ensures.some)
    (first-spare groups.items c.args.free.now c.requires.spares (λ same. c.in-Some.ensures.few (c.in-Some.ensures.some ∙ same))) in
    subst (λ (ls : List (ℕ × List ℕ)). IsEntered (lists_of groups.items) ls c.args.hash number stamps) (sym (ap (λ (gs : List Group). lists_of gs) back ∙ lists))
    (filled_again groups.items number c.args.hash stamps spare.within spare.empty c.requires.unique c.requires.absent)

pub returns-in_ok-number-in-None-clause-ok : goal.returns-in_ok-number-in-None-clause-ok
returns-in_ok-number-in-None-clause-ok c =
    let lists = lists_of c.args.groups.now.items in
    let stamps = c.args.stamp.0 ∷ [] in
    subst (λ (ls : List (ℕ × List ℕ)). IsEntered lists ls c.args.hash c.in_ok-number-in-None.number stamps) (sym c.in_ok-number-in-None.ensures.ok)
    (subst (λ (n : ℕ). IsEntered lists (lists ++ (c.args.hash, stamps) ∷ []) c.args.hash n stamps) (length_lists c.args.groups.now.items ∙ sym c.in_ok-number-in-None.ensures.last)
    (entered_last lists c.requires.unique c.args.hash stamps c.requires.absent))

-- the group that was emptied last is there, and has no stamps
pub refill-requires-clause-number : goal.refill-requires-clause-number
refill-requires-clause-number c =
    let groups = c.args.groups.now in
    let number = c.in-Some.number in
    let spare = subst (IsEmptyAt groups.items) (sym c.in-Some.ensures.some)
    (first-spare groups.items c.args.free.now c.requires.spares (λ same. c.in-Some.ensures.few (c.in-Some.ensures.some ∙ same))) in
    subst (λ (gs : List Group). number < length gs) (sym c.deref_mut-in-Some.ensures.value) spare.within

pub refill-requires-clause-empty : goal.refill-requires-clause-empty
refill-requires-clause-empty c =
    let groups = c.args.groups.now in
    let number = c.in-Some.number in
    let spare = subst (IsEmptyAt groups.items) (sym c.in-Some.ensures.some)
    (first-spare groups.items c.args.free.now c.requires.spares (λ same. c.in-Some.ensures.few (c.in-Some.ensures.some ∙ same))) in
    subst (λ (gs : List Group). stamped gs number ≡ false) (sym c.deref_mut-in-Some.ensures.value) spare.empty

-- there is one more only where all have stamps
pub returns-in_ok-number-in-None-clause-room : goal.returns-in_ok-number-in-None-clause-room
returns-in_ok-number-in-None-clause-room c =
    added-uses c.args.groups.now.items c.args.free.now (lists_of c.add.new.groups.items) c.args.hash c.args.stamp.0 c.requires.spares c.in-None.ensures.none
    c.in_ok-number-in-None.ensures.ok
