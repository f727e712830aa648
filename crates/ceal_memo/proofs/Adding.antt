-- A memo with one more entry.
use Rattle.std.proofs.Common.{◌≡◌, ◌≢◌, ℕ, inl, inr, true, false, List, [], ◌∷◌, refl, sym, ap, ◌∙◌, subst, Some, slice_get}
use Rattle.std.proofs.lemmas.Bool.Decides.{eqb_tells}
use Rattle.std.proofs.lemmas.Bool.{eq-eqb, false≢true}
use Rattle.std.specs.Prelude.{insert}
use Rattle.ceal_order.specs.Stamps.{is_in, Distinct}
use Rattle.ceal_order.specs.Rising.{IsRising, count_before}
use Rattle.ceal_order.proofs.Editing.{rising_insert}
use Rattle.ceal_order.proofs.Members.{in_insert}
use Rattle.ceal_order.proofs.StampLists.{in_besides, rising_once}
use Rattle.ceal_memo.specs.declared.home.Home.{Home}
use Rattle.ceal_memo.specs.declared.home.Home.TheVariants.{In}
use Rattle.ceal_memo.specs.Homes.{home_of, HomeChange, Houses, IsKept}
use Rattle.ceal_memo.specs.Lists.{stamps_at, with_stamp}
use Rattle.ceal_memo.specs.Numbers.{list_at, OneList, IsEntered}
use Rattle.ceal_memo.specs.Table.{ByHash, Follows, HasNone, EntriesChange}
use Rattle.ceal_memo.proofs.Numbers.{same_value}
use Rattle.ceal_memo.proofs.Looking.{first_is, list_is, looked, same_stamps, nowhere}

-- ---- the lists of a table, one of which has other stamps

module _ (old new : List (ℕ × List ℕ)) (unique_old : OneList old) (hash n : ℕ) (stamps : List ℕ) (some : stamps ≢ []) (entered : IsEntered old new hash n stamps) where
  pub list_here : list_at new n ≡ stamps
  list_here = list_is new n hash stamps entered.here

  pub list_other : (i : ℕ) → i ≢ n → list_at new i ≡ list_at old i
  list_other i other = same_value new old i (entered.others i other)

  pub hash_here : stamps_at new hash ≡ stamps
  hash_here = looked new entered.unique n hash stamps entered.here some

  -- the list with this number was that of the hash, or empty
  not_there : (other : ℕ) → other ≢ hash → (i : ℕ) (l : List ℕ) → l ≢ [] → slice_get old i ≡ Some (other, l) → i ≢ n
  not_there other differ i [] more at = absurd (more refl)
  not_there other differ i (s ∷ ss) more at = λ same. differ (entered.place other s ss (subst (λ (m : ℕ). slice_get old m ≡ Some (other, s ∷ ss)) same at))

  now_apart : (other : ℕ) → other ≢ hash → (i : ℕ) (l : List ℕ) → slice_get new i ≡ Some (other, l) → i ≢ n
  now_apart other differ i l at = λ same. differ (first_is other hash l stamps (sym at ∙ subst (λ (m : ℕ). slice_get new m ≡ Some (hash, stamps)) (sym same) entered.here))

  pub hash_other : (other : ℕ) → other ≢ hash → stamps_at new other ≡ stamps_at old other
  hash_other other differ = same_stamps old new entered.unique other
      (λ i l more at. entered.others i (not_there other differ i l more at) ∙ at)
      (λ i l more at. sym (entered.others i (now_apart other differ i l at)) ∙ at) unique_old

-- ---- homes

module _ (s : ℕ) (home : Home) (old new : List ℕ) (change : HomeChange s home old new) where
  pub home_here : home_of new s ≡ home
  home_here = change s ∙ rw (eq-eqb s s refl) refl

  pub home_other : (t : ℕ) → t ≢ s → home_of new t ≡ home_of old t
  home_other t other = elim (eqb_tells s t) [
    | inl p ↦ absurd (other (sym p.1))
    | inr p ↦ change t ∙ rw p.0 refl
  ]

-- a stamp that is in a list is none that is in no list
pub not_that : (s t : ℕ) (stamps : List ℕ) → is_in s stamps ≡ false → is_in t stamps ≡ true → t ≢ s
not_that s t stamps none there same = false≢true (sym none ∙ subst (λ (u : ℕ). is_in u stamps ≡ true) same there)

-- the home that a stamp has where others keep theirs
pub houses_more : (old new : List (ℕ × List ℕ)) (s n : ℕ) (homes homes' : List ℕ) → ((m : ℕ) → is_in s (list_at old m) ≡ false)
    → HomeChange s (In n) homes homes' → ((t : ℕ) → t ≢ s → is_in t (list_at new n) ≡ is_in t (list_at old n))
    → ((m : ℕ) → m ≢ n → list_at new m ≡ list_at old m) → Houses (record { lists = old }) homes → Houses (record { lists = new }) homes'
houses_more old new s n homes homes' none change here others houses m t there = elim (eqb_tells m n) [
  | inl p ↦ elim (eqb_tells t s) [
    | inl q ↦ ap (home_of homes') q.1 ∙ home_here s (In n) homes homes' change ∙ ap (λ i. In i) (sym p.1)
    | inr q ↦
        let was = sym (here t q.1) ∙ subst (λ (j : ℕ). is_in t (list_at new j) ≡ true) p.1 there in
        home_other s (In n) homes homes' change t q.1 ∙ houses n t was ∙ ap (λ i. In i) (sym p.1)
  ]
  | inr p ↦
      let was = subst (λ (l : List ℕ). is_in t l ≡ true) (others m p.1) there in
      home_other s (In n) homes homes' change t (not_that s t (list_at old m) (none m) was) ∙ houses m t was
]

-- ---- lists that rise

-- what comes in is there
pub inserted_some : (s at : ℕ) (stamps : List ℕ) → insert stamps at s ≢ []
inserted_some s at stamps empty =
    false≢true (sym (ap (is_in s) empty) ∙ in_insert s s at stamps ∙ rw (eq-eqb s s refl) refl)

-- they still do after a stamp comes in
module _ (order : List ℕ) (s : ℕ) (here : is_in s order ≡ true) (old new : List (ℕ × List ℕ)) (unique : OneList old)
    (rising : (k : ℕ) → IsRising order (stamps_at old k)) (none : (k : ℕ) → is_in s (stamps_at old k) ≡ false)
    (hash n : ℕ) (entered : IsEntered old new hash n (with_stamp order s (stamps_at old hash))) where
  some : with_stamp order s (stamps_at old hash) ≢ []
  some = inserted_some s (count_before order s (stamps_at old hash)) (stamps_at old hash)

  rises_here : IsRising order (with_stamp order s (stamps_at old hash))
  rises_here = rising_insert order s (stamps_at old hash) here (rising hash) (none hash)

  pub more_here : stamps_at new hash ≡ with_stamp order s (stamps_at old hash)
  more_here = hash_here old new unique hash n (with_stamp order s (stamps_at old hash)) some entered

  pub more_other : (k : ℕ) → k ≢ hash → stamps_at new k ≡ stamps_at old k
  more_other = hash_other old new unique hash n (with_stamp order s (stamps_at old hash)) some entered

  pub rising_more : (k : ℕ) → IsRising order (stamps_at new k)
  rising_more k = elim (eqb_tells k hash) [
    | inl same ↦ subst (λ (q : ℕ). IsRising order (stamps_at new q)) (sym same.1) (rw more_here rises_here)
    | inr other ↦ rw (more_other k other.1) (rising k)
  ]

  -- no other stamp comes in
  pub none_more : (t : ℕ) → t ≢ s → ((k : ℕ) → is_in t (stamps_at old k) ≡ false) → (k : ℕ) → is_in t (stamps_at new k) ≡ false
  none_more t other absent k = elim (eqb_tells k hash) [
    | inl same ↦
        subst (λ (q : ℕ). is_in t (stamps_at new q) ≡ false) (sym same.1)
        (rw more_here (in_besides t s (count_before order s (stamps_at old hash)) (stamps_at old hash) other ∙ absent hash))
    | inr differ ↦ rw (more_other k differ.1) (absent k)
  ]

  pub more_list : list_at new n ≡ with_stamp order s (stamps_at old hash)
  more_list = list_here old new unique hash n (with_stamp order s (stamps_at old hash)) some entered

  pub other_list : (m : ℕ) → m ≢ n → list_at new m ≡ list_at old m
  other_list = list_other old new unique hash n (with_stamp order s (stamps_at old hash)) some entered

  pub once_more : ((m : ℕ) → Distinct (list_at old m)) → (m : ℕ) → Distinct (list_at new m)
  once_more once m = elim (eqb_tells m n) [
    | inl p ↦ subst (λ (i : ℕ). Distinct (list_at new i)) (sym p.1) (rw more_list (rising_once order (with_stamp order s (stamps_at old hash)) rises_here))
    | inr p ↦ rw (other_list m p.1) (once m)
  ]

-- ---- a memo

-- each stamp has the home that it had
pub kept_same : (memo : ByHash) (homes homes' : List ℕ) → ((t : ℕ) → home_of homes' t ≡ home_of homes t) → IsKept memo homes → IsKept memo homes'
kept_same memo homes homes' same kept = record {
  houses = λ n t there. same t ∙ kept.houses n t there;
  once = kept.once;
  unique = kept.unique;
}

module _ (order : List ℕ) (s : ℕ) (lists : List (ℕ × List ℕ)) (homes : List ℕ) (here : is_in s order ≡ true)
    (follows : Follows order (record { lists = lists })) (none : HasNone s (record { lists = lists }))
    (kept : IsKept (record { lists = lists }) homes) (lists' : List (ℕ × List ℕ)) (hash n : ℕ)
    (entered : IsEntered lists lists' hash n (with_stamp order s (stamps_at lists hash))) where
  pub added : EntriesChange hash (with_stamp order s (stamps_at lists hash)) (record { lists = lists }) (record { lists = lists' })
  added = record {
    here = more_here order s here lists lists' kept.unique follows.rising none.none hash n entered;
    others = more_other order s here lists lists' kept.unique follows.rising none.none hash n entered;
  }

  pub follows_more : Follows order (record { lists = lists' })
  follows_more = record { rising = rising_more order s here lists lists' kept.unique follows.rising none.none hash n entered }

  pub still_none : (t : ℕ) → t ≢ s → HasNone t (record { lists = lists }) → HasNone t (record { lists = lists' })
  still_none t other absent = record { none = none_more order s here lists lists' kept.unique follows.rising none.none hash n entered t other absent.none }

  pub kept_more : (homes' : List ℕ) → HomeChange s (In n) homes homes' → IsKept (record { lists = lists' }) homes'
  kept_more homes' change = record {
    houses = houses_more lists lists' s n homes homes' (nowhere lists kept.unique s none.none) change
        (λ t other. rw (more_list order s here lists lists' kept.unique follows.rising none.none hash n entered, entered.before)
        (in_besides t s (count_before order s (stamps_at lists hash)) (stamps_at lists hash) other))
        (other_list order s here lists lists' kept.unique follows.rising none.none hash n entered) kept.houses;
    once = once_more order s here lists lists' kept.unique follows.rising none.none hash n entered kept.once;
    unique = entered.unique;
  }
