-- Groups without stamps, which can be filled again.
use Rattle.std.specs.Prelude.{◌==◌}
use Rattle.std.proofs.Common.{◌≡◌, ◌≢◌, ◌<◌, ◌≤◌, ◌+◌, ◌⊎◌, ℕ, suc, zero, Bool, true, false, inl, inr, List, [], ◌∷◌, ◌++◌, length, refl, sym, ap, ◌∙◌, subst, arith, slice_set, slice_index_or}
use Rattle.std.proofs.lemmas.Bool.{cases_Bool, false≢true}
use Rattle.std.proofs.lemmas.Bool.Decides.{eqb_tells}
use Rattle.ceal_order.proofs.Places.{in_head, in_tail, not_in}
use Rattle.ceal_order.specs.Stamps.{is_in, NotIn, Distinct}
use Rattle.ceal_memo.specs.declared.chains.Group.{Group}
use Rattle.ceal_memo.specs.Lists.{has_stamps}
use Rattle.ceal_memo.specs.Numbers.{stamp_count, UsesEmpty}
use Rattle.ceal_memo.specs.Chains.{blank, group_at, next_at, lists_of, with_list, stamped, no_group, IsEmptyAt, LeadsThrough, HasSpares, Chained}
use Rattle.ceal_memo.proofs.Grouping.{same_length, same_stamped, length_lists, set_here, set_others, length_set, pushed_before, length_pushed, some_is}

leads-as : (next next' : ℕ → ℕ) (first : ℕ) (ns : List ℕ) → ((n : ℕ) → is_in n ns ≡ true → next' n ≡ next n) → LeadsThrough next first ns → LeadsThrough next' first ns
leads-as next next' first [] same leads = leads
leads-as next next' first (n ∷ ns) same leads = (
  leads.0,
  subst (λ (k : ℕ). LeadsThrough next' k ns) (sym (same n (in_head n ns))) (leads-as next next' (next n) ns (λ m is. same m (in_tail m n ns is)) leads.1),
)

none-of : (s : ℕ) (xs : List ℕ) → is_in s xs ≡ false → NotIn s xs
none-of s [] h = tt
none-of s (x ∷ xs) h = elim (eqb_tells x s) [
  | inl p ↦ absurd (let no : true ≡ false = rw p.0 at h in false≢true (sym no))
  | inr p ↦ ((λ same. p.1 (sym same)), none-of s xs (rw p.0 at h))
]

-- ---- the first one

pub first-spare : (groups : List Group) (free : ℕ) → HasSpares groups free → free ≢ no_group → IsEmptyAt groups free
first-spare groups free h some = by h.spares h.leads h.empty
  where
    by : (ns : List ℕ) → LeadsThrough (next_at groups) free ns → ((n : ℕ) → is_in n ns ≡ true → IsEmptyAt groups n) → IsEmptyAt groups free
    by [] leads empty = absurd (some leads)
    by (m ∷ ns) leads empty = subst (IsEmptyAt groups) (sym leads.0) (empty m (in_head m ns))

pub none-spare : (groups : List Group) (free : ℕ) → HasSpares groups free → free ≡ no_group → (n : ℕ) → n < length groups → stamped groups n ≡ true
none-spare groups free h none n within = by h.spares h.leads h.empty h.all
  where
    by : (ns : List ℕ) → LeadsThrough (next_at groups) free ns → ((n : ℕ) → is_in n ns ≡ true → IsEmptyAt groups n) → ((n : ℕ) → IsEmptyAt groups n → is_in n ns ≡ true) → stamped groups n ≡ true
    by [] leads empty all = elim (cases_Bool (stamped groups n)) [
      | inl is ↦ is
      | inr not ↦ absurd (false≢true (all n (record { within = within; empty = not })))
    ]
    by (m ∷ ns) leads empty all =
        let few = h.few in
        let low = (empty m (in_head m ns)).within in
        let is : m ≡ no_group = sym leads.0 ∙ none in absurd (omega (arith, few, low, is))

-- ---- after a change

-- the same groups are empty, and each leads where it did
pub spares-as : (groups groups' : List Group) (free : ℕ) → HasSpares groups free → length groups' ≤ no_group
    → ((n : ℕ) → IsEmptyAt groups n → IsEmptyAt groups' n) → ((n : ℕ) → IsEmptyAt groups' n → IsEmptyAt groups n)
    → ((n : ℕ) → IsEmptyAt groups n → next_at groups' n ≡ next_at groups n) → HasSpares groups' free
spares-as groups groups' free h few more less next = record {
  spares = h.spares;
  leads = leads-as (next_at groups) (next_at groups') free h.spares (λ n is. next n (h.empty n is)) h.leads;
  once = h.once;
  empty = λ n is. more n (h.empty n is);
  all = λ n is. h.all n (less n is);
  few = few;
}

-- one more is empty, and leads to what was the first
pub spares-more : (groups groups' : List Group) (free number : ℕ) → HasSpares groups free → length groups' ≤ no_group → (IsEmptyAt groups number → ⊥) → IsEmptyAt groups' number
    → ((n : ℕ) → IsEmptyAt groups n → IsEmptyAt groups' n) → ((n : ℕ) → n ≢ number → IsEmptyAt groups' n → IsEmptyAt groups n)
    → ((n : ℕ) → IsEmptyAt groups n → next_at groups' n ≡ next_at groups n) → next_at groups' number ≡ free → HasSpares groups' number
spares-more groups groups' free number h few full now more less next own = record {
  spares = number ∷ h.spares;
  leads = (
    refl,
    subst (λ (k : ℕ). LeadsThrough (next_at groups') k h.spares) (sym own) (leads-as (next_at groups) (next_at groups') free h.spares (λ n is. next n (h.empty n is)) h.leads),
  );
  once = (none-of number h.spares (elim (cases_Bool (is_in number h.spares)) [ inl is ↦ absurd (full (h.empty number is)) | inr not ↦ not ]), h.once);
  empty = λ n is. elim (eqb_tells number n) [
    | inl p ↦ subst (IsEmptyAt groups') p.1 now
    | inr p ↦ more n (h.empty n (rw p.0 at is))
  ];
  all = λ n is. elim (eqb_tells number n) [
    | inl p ↦ rw p.0 refl
    | inr p ↦ rw p.0 (h.all n (less n (λ same. p.1 (sym same)) is))
  ];
  few = few;
}

-- the first one is filled, and what it led to comes first
pub spares-less : (groups groups' : List Group) (number : ℕ) → HasSpares groups number → number ≢ no_group → length groups' ≤ no_group → (IsEmptyAt groups' number → ⊥)
    → ((n : ℕ) → n ≢ number → IsEmptyAt groups n → IsEmptyAt groups' n) → ((n : ℕ) → IsEmptyAt groups' n → IsEmptyAt groups n)
    → ((n : ℕ) → n ≢ number → IsEmptyAt groups n → next_at groups' n ≡ next_at groups n) → HasSpares groups' (next_at groups number)
spares-less groups groups' number h some few full more less next = by h.spares h.leads h.once h.empty h.all
  where
    by : (ns : List ℕ) → LeadsThrough (next_at groups) number ns → Distinct ns → ((n : ℕ) → is_in n ns ≡ true → IsEmptyAt groups n) → ((n : ℕ) → IsEmptyAt groups n → is_in n ns ≡ true)
        → HasSpares groups' (next_at groups number)
    by [] leads once empty all = absurd (some leads)
    by (m ∷ ns) leads once empty all =
        let is : number ≡ m = leads.0 in
        let apart : (n : ℕ) → is_in n ns ≡ true → n ≢ number = λ n i same. false≢true (sym (not_in m ns once.0) ∙ subst (λ (k : ℕ). is_in k ns ≡ true) (same ∙ is) i) in
        record {
          spares = ns;
          leads = leads-as (next_at groups) (next_at groups') (next_at groups number) ns (λ n i. next n (apart n i) (empty n (in_tail n m ns i)))
              (subst (λ (k : ℕ). LeadsThrough (next_at groups) (next_at groups k) ns) (sym is) leads.1);
          once = once.1;
          empty = λ n i. more n (apart n i) (empty n (in_tail n m ns i));
          all = λ n e. elim (eqb_tells m n) [
            | inl p ↦ absurd (full (subst (IsEmptyAt groups') (sym (is ∙ p.1)) e))
            | inr p ↦ rw p.0 at (all n (less n e))
          ];
          few = few;
        }

-- groups of the same lists are empty alike
pub empty-as : (groups groups' : List Group) → lists_of groups' ≡ lists_of groups → (n : ℕ) → IsEmptyAt groups n → IsEmptyAt groups' n
empty-as groups groups' same n e = record {
  within = subst (λ (k : ℕ). n < k) (sym (same_length groups' groups same)) e.within;
  empty = same_stamped groups' groups same n ∙ e.empty;
}

-- other links of the same lists
pub spares-linked : (groups groups' : List Group) (free : ℕ) → lists_of groups' ≡ lists_of groups → ((n : ℕ) → IsEmptyAt groups n → next_at groups' n ≡ next_at groups n)
    → HasSpares groups free → HasSpares groups' free
spares-linked groups groups' free same next h =
    spares-as groups groups' free h (subst (λ (k : ℕ). k ≤ no_group) (sym (same_length groups' groups same)) h.few) (empty-as groups groups' same) (empty-as groups' groups (sym same)) next

-- ---- a group is another one now

set-empty : (groups : List Group) (number : ℕ) (g : Group) (n : ℕ) → n ≢ number → IsEmptyAt groups n → IsEmptyAt (slice_set groups number g) n
set-empty groups number g n other e = record {
  within = subst (λ (k : ℕ). n < k) (sym (length_set groups number g)) e.within;
  empty = ap (λ (h : Group). has_stamps h.list) (set_others groups number g blank n other) ∙ e.empty;
}

was-empty : (groups : List Group) (number : ℕ) (g : Group) (n : ℕ) → n ≢ number → IsEmptyAt (slice_set groups number g) n → IsEmptyAt groups n
was-empty groups number g n other e = record {
  within = subst (λ (k : ℕ). n < k) (length_set groups number g) e.within;
  empty = sym (ap (λ (h : Group). has_stamps h.list) (set_others groups number g blank n other)) ∙ e.empty;
}

-- the first of those that can be filled gets another hash, comes into a chain, and gets stamps
pub spares-filled : (old : List Group) (number : ℕ) (own : Group) (mid : List Group) (filled : Group) → HasSpares old number → number ≢ no_group → number < length old → stamped old number ≡ false
    → lists_of mid ≡ lists_of (slice_set old number own) → ((n : ℕ) → n ≢ number → IsEmptyAt (slice_set old number own) n → next_at mid n ≡ next_at (slice_set old number own) n)
    → filled.list ≢ [] → HasSpares (slice_set mid number filled) (next_at old number)
spares-filled old number own mid filled h some within empty lists next stamps =
    let count : length mid ≡ length old = same_length mid (slice_set old number own) lists ∙ length_set old number own in
    let most = h.few in
    let long = length_set mid number filled in
    spares-less old (slice_set mid number filled) number h some (omega (arith, count, most, long))
    (λ e. false≢true (sym e.empty ∙ (ap (λ (g : Group). has_stamps g.list) (set_here mid number filled blank (omega (arith, count, within))) ∙ some_is filled.list stamps)))
    (λ n other e. set-empty mid number filled n other (empty-as (slice_set old number own) mid lists n (set-empty old number own n other e)))
    (λ n e. elim (eqb_tells n number) [
      | inl p ↦ subst (IsEmptyAt old) (sym p.1) (record { within = within; empty = empty })
      | inr p ↦ was-empty old number own n p.1 (empty-as mid (slice_set old number own) (sym lists) n (was-empty mid number filled n p.1 e))
    ])
    (λ n other e.
    ap (λ (g : Group). g.next) (set_others mid number filled blank n other) ∙ next n other (set-empty old number own n other e)
    ∙ ap (λ (g : Group). g.next) (set_others old number own blank n other))

-- one more comes last, and has stamps
pushed-last : (groups : List Group) (g d : Group) → slice_index_or (groups ++ g ∷ []) (length groups) d ≡ g
pushed-last [] g d = refl
pushed-last (h ∷ groups) g d = pushed-last groups g d

pub pushed-stamped : (groups : List Group) (g : Group) → has_stamps g.list ≡ true → stamped (groups ++ g ∷ []) (length groups) ≡ true
pushed-stamped groups g stamps = ap (λ (x : Group). has_stamps x.list) (pushed-last groups g blank) ∙ stamps

pub spares-pushed : (groups : List Group) (g : Group) (free : ℕ) → has_stamps g.list ≡ true → length groups < no_group → HasSpares groups free → HasSpares (groups ++ g ∷ []) free
spares-pushed groups g free stamps few h =
    let long = length_pushed groups g in
    spares-as groups (groups ++ g ∷ []) free h (omega (arith, long, few))
    (λ n e. record { within = (let low = e.within in omega (arith, low, long)); empty = ap (λ (x : Group). has_stamps x.list) (pushed_before groups g blank n e.within) ∙ e.empty })
    (λ n e. by n e (eqb_tells n (length groups)))
    (λ n e. ap (λ (x : Group). x.next) (pushed_before groups g blank n e.within))
  where
    by : (n : ℕ) → IsEmptyAt (groups ++ g ∷ []) n → ((n == length groups ≡ true) × (n ≡ length groups)) ⊎ ((n == length groups ≡ false) × (n ≢ length groups)) → IsEmptyAt groups n
    by n e (inl p) = absurd (false≢true (sym e.empty ∙ (ap (λ (k : ℕ). stamped (groups ++ g ∷ []) k) p.1 ∙ (ap (λ (x : Group). has_stamps x.list) (pushed-last groups g blank) ∙ stamps))))
    by n e (inr p) =
        let all = e.within in
        let long = length_pushed groups g in
        let other : n ≢ length groups = p.1 in
        let low : n < length groups = omega arith in
        record { within = low; empty = sym (ap (λ (x : Group). has_stamps x.list) (pushed_before groups g blank n low)) ∙ e.empty }

-- a group with stamps comes into a chain
pub spares-chained : (groups groups' : List Group) (number free : ℕ) → stamped groups number ≡ true → lists_of groups' ≡ lists_of groups
    → ((n : ℕ) → n ≢ number → next_at groups' n ≡ next_at groups n) → HasSpares groups free → HasSpares groups' free
spares-chained groups groups' number free stamps lists next h =
    spares-linked groups groups' free lists (λ n e. next n (λ same. false≢true (sym e.empty ∙ ap (stamped groups) same ∙ stamps))) h

-- ---- other stamps in a group

module _ (groups : List Group) (number : ℕ) (list : List ℕ) (within : number < length groups) (free : ℕ) (h : HasSpares groups free) (stamps : stamped groups number ≡ true) where
  abbrev own : Group
  own = record (group_at groups number) { list = list }

  not-it : (n : ℕ) → IsEmptyAt groups n → n ≢ number
  not-it n e same = false≢true (sym e.empty ∙ ap (stamped groups) same ∙ stamps)

  most : length (slice_set groups number own) ≤ no_group
  most = let few = h.few in let long = length_set groups number own in omega (arith, few, long)

  links : (n : ℕ) → IsEmptyAt groups n → next_at (slice_set groups number own) n ≡ next_at groups n
  links n e = ap (λ (g : Group). g.next) (set_others groups number own blank n (not-it n e))

  -- and it has some still
  pub spares-still : has_stamps list ≡ true → HasSpares (with_list groups number list) free
  spares-still some = spares-as groups (slice_set groups number own) free h most (λ n e. set-empty groups number own n (not-it n e) e)
      (λ n e. was-empty groups number own n
      (λ same. false≢true (sym e.empty ∙ (ap (stamped (slice_set groups number own)) same ∙ (ap (λ (g : Group). has_stamps g.list) (set_here groups number own blank within) ∙ some)))) e) links

  -- and it has none any more, and goes out of its chain
  pub spares-emptied : has_stamps list ≡ false → (groups' : List Group) → lists_of groups' ≡ lists_of (with_list groups number list)
      → ((n : ℕ) → n ≢ number → IsEmptyAt (with_list groups number list) n → next_at groups' n ≡ next_at (with_list groups number list) n)
      → next_at groups' number ≡ free → HasSpares groups' number
  spares-emptied none groups' lists next at =
      let count : length groups' ≡ length groups = same_length groups' (slice_set groups number own) lists ∙ length_set groups number own in
      let few = h.few in
      let now : IsEmptyAt (slice_set groups number own) number
      = record { within = subst (λ (k : ℕ). number < k) (sym (length_set groups number own)) within; empty = ap (λ (g : Group). has_stamps g.list) (set_here groups number own blank within) ∙ none } in
      spares-more groups groups' free number h (omega (arith, count, few)) (λ e. not-it number e refl) (empty-as (slice_set groups number own) groups' lists number now)
      (λ n e. empty-as (slice_set groups number own) groups' lists n (set-empty groups number own n (not-it n e) e))
      (λ n other e. was-empty groups number own n other (empty-as groups' (slice_set groups number own) (sym lists) n e))
      (λ n e. next n (not-it n e) (set-empty groups number own n (not-it n e) e) ∙ links n e) at

-- a group without stamps is in no chain
pub passed : (heads : List ℕ) (groups : List Group) (count : ℕ) → stamped groups count ≡ false → Chained count (stamped groups) heads groups → Chained (count + 1) (stamped groups) heads groups
passed heads groups count none chained = record {
  heads = λ b inside. let l = chained.heads b inside in record {
    within = let low = l.within in omega (arith, low);
    there = l.there;
    last = λ n under is. elim (eqb_tells n count) [
      | inl p ↦ absurd (false≢true (sym none ∙ (ap (stamped groups) (sym p.1) ∙ is.chosen)))
      | inr p ↦ (let other : n ≢ count = p.1 in l.last n (omega (arith, under, other)) is)
    ];
  };
  nexts = λ n b under is. elim (eqb_tells n count) [
    | inl p ↦ absurd (false≢true (sym none ∙ (ap (stamped groups) (sym p.1) ∙ is.chosen)))
    | inr p ↦ (let other : n ≢ count = p.1 in chained.nexts n b (omega (arith, under, other)) is)
  ];
}

-- ---- how many lists there are

some-count : (l : List ℕ) → has_stamps l ≡ true → 1 ≤ length l
some-count [] is = absurd (false≢true is)
some-count (s ∷ ss) is = omega arith

-- where each has stamps there are no more lists than stamps
filled-count : (groups : List Group) → ((n : ℕ) → n < length groups → stamped groups n ≡ true) → length (lists_of groups) ≤ stamp_count (lists_of groups)
filled-count [] all = omega arith
filled-count (g ∷ gs) all =
    let here : 1 ≤ length g.list = some-count g.list (all 0 (omega arith)) in
    let rest = filled-count gs (λ n within. all (suc n) (omega (arith, within))) in omega (arith, here, rest)

count-pushed : (ls : List (ℕ × List ℕ)) (hash s : ℕ) → stamp_count (ls ++ (hash, s ∷ []) ∷ []) ≡ stamp_count ls + 1
count-pushed [] hash s = refl
count-pushed (l ∷ ls) hash s = let rest = count-pushed ls hash s in omega (arith, rest)

length-pushed : (ls : List (ℕ × List ℕ)) (l : ℕ × List ℕ) → length (ls ++ l ∷ []) ≡ length ls + 1
length-pushed [] l = refl
length-pushed (k ∷ ls) l = let rest = length-pushed ls l in omega (arith, rest)

-- one list more, where none is empty
pub added-uses : (groups : List Group) (free : ℕ) (new : List (ℕ × List ℕ)) (hash s : ℕ) → HasSpares groups free → free ≡ no_group → new ≡ lists_of groups ++ (hash, s ∷ []) ∷ []
    → UsesEmpty (lists_of groups) new
added-uses groups free new hash s h none is =
    let few = filled-count groups (none-spare groups free h none) in
    let more = count-pushed (lists_of groups) hash s in
    let long = length-pushed (lists_of groups) (hash, s ∷ []) in
    rw is (inr (omega (arith, few, more, long)))

-- as many lists
pub same-uses : (old new : List (ℕ × List ℕ)) → length new ≡ length old → UsesEmpty old new
same-uses old new same = inl (omega (arith, same))
