-- Rising stamps with one more, or one less.
use Rattle.std.proofs.Common.{◌≡◌, ◌≢◌, ◌↔◌, ◌==◌, ◌+◌, ◌<◌, ◌≤◌, ℕ, suc, zero, inl, inr, true, false, List, [], ◌∷◌, ◌++◌, length, get_or, take, drop, refl, ap, subst, arith}
use Rattle.std.proofs.lemmas.Bool.Decides.{eqb_tells}
use Rattle.std.proofs.lemmas.Bool.{eq-eqb, eqb-true, cases_lt, lt-ltb, le-ltb}
use Rattle.std.specs.List.{insert, remove}
use Rattle.ceal_order.specs.declared.stamp.Stamp.{Stamp}
use Rattle.ceal_order.specs.Stamps.{is_in, place, without}
use Rattle.ceal_order.specs.Rising.{numbers, IsBeforeAll, IsRising, count_before}
use Rattle.ceal_order.proofs.Searching.{count_none, one_place}

-- ---- the numbers of stamps

pub numbers-append : (ss ts : List Stamp) → numbers (ss ++ ts) ≡ numbers ss ++ numbers ts
numbers-append [] ts = refl
numbers-append (s ∷ ss) ts = ap (λ (l : List ℕ). s.0 ∷ l) (numbers-append ss ts)

numbers-take : (i : ℕ) (ss : List Stamp) → numbers (take i ss) ≡ take i (numbers ss)
numbers-take zero ss = refl
numbers-take (suc i) [] = refl
numbers-take (suc i) (s ∷ ss) = ap (λ (l : List ℕ). s.0 ∷ l) (numbers-take i ss)

numbers-drop : (i : ℕ) (ss : List Stamp) → numbers (drop i ss) ≡ drop i (numbers ss)
numbers-drop zero ss = refl
numbers-drop (suc i) [] = refl
numbers-drop (suc i) (s ∷ ss) = numbers-drop i ss

pub numbers-insert : (ss : List Stamp) (i : ℕ) (s : Stamp) → numbers (insert ss i s) ≡ insert (numbers ss) i s.0
numbers-insert ss i s = rw (numbers-append (take i ss) (s ∷ drop i ss), numbers-take i ss, numbers-drop i ss) refl

pub numbers-remove : (ss : List Stamp) (i : ℕ) → numbers (remove ss i) ≡ remove (numbers ss) i
numbers-remove ss i = rw (numbers-append (take i ss) (drop (suc i) ss), numbers-take i ss, numbers-drop (suc i) ss) refl

-- there are no numbers exactly when there are no stamps
pub empty_tells : (ss : List Stamp) → ((length ss == 0) ≡ true) ↔ (numbers ss ≡ [])
empty_tells [] = (λ h. refl, λ h. refl)
empty_tells (s ∷ ss) = (λ h. absurd (let e : suc (length ss) ≡ 0 = eqb-true (suc (length ss)) 0 h in omega arith), λ h. absurd (cc))

-- ---- one less

pub without_absent : (s : ℕ) (xs : List ℕ) → ((k : ℕ) → k < length xs → get_or xs k 0 ≢ s) → without s xs ≡ xs
without_absent s [] none = refl
without_absent s (x ∷ xs) none = elim (eqb_tells x s) [
  | inl p ↦ absurd (none 0 (omega arith) p.1)
  | inr p ↦ rw p.0 (ap (λ (l : List ℕ). x ∷ l) (without_absent s xs (λ k less. none (suc k) (omega arith))))
]

pub without_at : (s : ℕ) (xs : List ℕ) (i : ℕ) → i < length xs → get_or xs i 0 ≡ s → ((k : ℕ) → k < i → get_or xs k 0 ≢ s) → remove xs i ≡ without s xs
without_at s [] i within is none = absurd (omega arith)
without_at s (x ∷ xs) zero within is none = rw (eq-eqb x s is) refl
without_at s (x ∷ xs) (suc i) within is none = elim (eqb_tells x s) [
  | inl p ↦ absurd (none 0 (omega arith) p.1)
  | inr p ↦ rw p.0 (ap (λ (l : List ℕ). x ∷ l) (without_at s xs i (omega arith) is (λ k less. none (suc k) (omega arith))))
]

pub place_within : (s : ℕ) (xs : List ℕ) → is_in s xs ≡ true → place s xs < length xs
place_within s [] found = absurd (cc)
place_within s (x ∷ xs) found = elim (eqb_tells x s) [
  | inl p ↦ rw p.0 (omega arith)
  | inr p ↦ rw p.0 (let rest = place_within s xs (rw p.0 at found) in omega (arith, rest))
]

pub remove_place : (s : ℕ) (xs : List ℕ) → is_in s xs ≡ true → remove xs (place s xs) ≡ without s xs
remove_place s [] found = absurd (cc)
remove_place s (x ∷ xs) found = elim (eqb_tells x s) [
  | inl p ↦ rw p.0 refl
  | inr p ↦
      let next : 1 + place s xs ≡ suc (place s xs) = omega arith in
      rw (p.0, next) (ap (λ (l : List ℕ). x ∷ l) (remove_place s xs (rw p.0 at found)))
]

module _ (order : List ℕ) where
  before_all_without : (s t : ℕ) (xs : List ℕ) → IsBeforeAll order s xs → IsBeforeAll order s (without t xs)
  before_all_without s t [] before = tt
  before_all_without s t (x ∷ xs) before = elim (eqb_tells x t) [ inl p ↦ rw p.0 before.1 | inr p ↦ rw p.0 (before.0, before_all_without s t xs before.1) ]

  pub rising_without : (t : ℕ) (xs : List ℕ) → IsRising order xs → IsRising order (without t xs)
  rising_without t [] rising = tt
  rising_without t (x ∷ xs) rising = elim (eqb_tells x t) [
    | inl p ↦ rw p.0 rising.2
    | inr p ↦ rw p.0 (rising.0, before_all_without x t xs rising.1, rising_without t xs rising.2)
  ]

  before_in : (s t : ℕ) (xs : List ℕ) → IsBeforeAll order s xs → is_in t xs ≡ true → place s order < place t order
  before_in s t [] before found = absurd (cc)
  before_in s t (x ∷ xs) before found = elim (eqb_tells x t) [
    | inl p ↦ subst (λ (k : ℕ). place s order < place k order) p.1 before.0
    | inr p ↦ before_in s t xs before.1 (rw p.0 at found)
  ]

  -- as many are before a stamp as there are stamps in front of it
  pub count_of_member : (s : ℕ) (xs : List ℕ) → IsRising order xs → is_in s xs ≡ true → count_before order s xs ≡ place s xs
  count_of_member s [] rising found = absurd (cc)
  count_of_member s (x ∷ xs) rising found = elim (eqb_tells x s) [
    | inl p ↦
        let le : place s order ≤ place x order = subst (λ (k : ℕ). place k order ≤ place x order) p.1 (omega arith) in
        rw (le-ltb (place x order) (place s order) le, p.0) (count_none order s x xs le rising.1)
    | inr p ↦
        let there : is_in s xs ≡ true = rw p.0 at found in
        let less : place x order < place s order = before_in x s xs rising.1 there in
        rw (lt-ltb (place x order) (place s order) less, p.0) (let rest = count_of_member s xs rising.2 there in omega (arith, rest))
  ]

  -- ---- one more

  before_all_insert : (s t : ℕ) (n : ℕ) (xs : List ℕ) → IsBeforeAll order s xs → place s order < place t order → IsBeforeAll order s (insert xs n t)
  before_all_insert s t zero xs before less = (less, before)
  before_all_insert s t (suc n) [] before less = (less, tt)
  before_all_insert s t (suc n) (x ∷ xs) before less = (before.0, before_all_insert s t n xs before.1 less)

  before_all_less : (s t : ℕ) (xs : List ℕ) → place s order < place t order → IsBeforeAll order t xs → IsBeforeAll order s xs
  before_all_less s t [] less before = tt
  before_all_less s t (x ∷ xs) less before = (let more = before.0 in omega (arith, more), before_all_less s t xs less before.1)

  pub rising_insert : (s : ℕ) (xs : List ℕ) → is_in s order ≡ true → IsRising order xs → is_in s xs ≡ false → IsRising order (insert xs (count_before order s xs) s)
  rising_insert s [] here rising none = (here, tt, tt)
  rising_insert s (x ∷ xs) here rising none = elim (eqb_tells x s) [
    | inl p ↦ absurd (let no : true ≡ false = rw p.0 at none in cc)
    | inr p ↦ elim (cases_lt (place x order) (place s order)) [
      | inl less ↦
          rw (lt-ltb (place x order) (place s order) less)
          (rising.0, before_all_insert x s (count_before order s xs) xs rising.1 less, rising_insert s xs here rising.2 (rw p.0 at none))
      | inr le ↦
          let less : place s order < place x order = elim (cases_lt (place s order) (place x order)) [
            | inl less ↦ less
            | inr ge ↦ absurd (p.1 (one_place x s order rising.0 here (omega arith)))
          ] in
          rw (le-ltb (place x order) (place s order) le, count_none order s x xs le rising.1) (here, (less, before_all_less s x xs less rising.1), rising)
    ]
  ]
