-- Stamps that are put into a queue and taken out of it.
use Rattle.std.proofs.Common.{◌≡◌, ◌≢◌, ◌<◌, ◌≤◌, ◌+◌, ℕ, suc, nat_lt, inl, inr, true, false, List, [], ◌∷◌, length, get_or, Option, Some, None, refl, sym, ap, subst, ◌∙◌, arith}
use Rattle.std.proofs.lemmas.Bool.Decides.{eqb_tells}
use Rattle.std.proofs.lemmas.Bool.{eq-eqb, le-ltb, lt-ltb, cases_Bool, cases_lt}
use Rattle.std.specs.List.{insert, remove}
use Rattle.ceal_order.specs.Stamps.{is_in, place, head_of, without}
use Rattle.ceal_order.specs.declared.stamp.Stamp.{Stamp}
use Rattle.ceal_order.specs.Rising.{numbers, count_before, IsBeforeAll, IsRising}
use Rattle.ceal_order.proofs.Members.{in_insert, in_without}
use Rattle.ceal_order.proofs.Places.{place_tells}
use Rattle.ceal_order.proofs.Searching.{count_none}
use Rattle.ceal_queue.specs.Queue.{IsWith, IsWithout, IsBefore, IsEarliest}

-- ---- being in a list

pub in_head : (x : ℕ) (xs : List ℕ) → is_in x (x ∷ xs) ≡ true
in_head x xs = rw (eq-eqb x x refl) refl

pub in_other : (s x : ℕ) (xs : List ℕ) → x ≢ s → is_in s (x ∷ xs) ≡ is_in s xs
in_other s x xs other = elim (eqb_tells x s) [ inl p ↦ absurd (other p.1) | inr p ↦ rw p.0 refl ]

-- a stamp that is at no index is not there
pub absent_everywhere : (s : ℕ) (xs : List ℕ) → ((k : ℕ) → k < length xs → get_or xs k 0 ≢ s) → is_in s xs ≡ false
absent_everywhere s [] none = refl
absent_everywhere s (x ∷ xs) none = elim (eqb_tells x s) [
  | inl p ↦ absurd (none 0 (omega arith) p.1)
  | inr p ↦ rw p.0 (absent_everywhere s xs (λ k less. none (suc k) (omega (arith, less))))
]

pub length-without : (s : ℕ) (xs : List ℕ) → is_in s xs ≡ true → length (without s xs) + 1 ≡ length xs
length-without s [] found = absurd (cc)
length-without s (x ∷ xs) found = elim (eqb_tells x s) [
  | inl p ↦ rw p.0 (omega arith)
  | inr p ↦ rw p.0 (let rest = length-without s xs (rw p.0 at found) in omega (arith, rest))
]

-- the stamp at the first index is the first one
pub head_at : (ss : List Stamp) (first : Stamp) → 0 < length ss → ((d : Stamp) → get_or ss 0 d ≡ first) → Some first.0 ≡ head_of (numbers ss)
head_at [] first some got = absurd (omega arith)
head_at (s ∷ ss) first some got = ap (λ (t : Stamp). Some t.0) (sym (got first))

-- the first of some stamps, and the others
pub headed : (ss : List Stamp) (first : ℕ) → Some first ≡ head_of (numbers ss) → first ∷ numbers (remove ss 0) ≡ numbers ss
headed [] first e = absurd (cc)
headed (s ∷ ss) first e = let same : s.0 ≡ first = cc in subst (λ (k : ℕ). k ∷ numbers ss ≡ s.0 ∷ numbers ss) same refl

-- ---- one stamp more, and one less

pub is_with : (s at : ℕ) (xs : List ℕ) → IsWith s xs (insert xs at s)
is_with s at xs = record {
  there = in_insert s s at xs ∙ in_head s xs;
  others = λ t other. in_insert t s at xs ∙ in_other t s xs (λ e. other (sym e));
}

module _ (order : List ℕ) where
  absent_before : (s : ℕ) (xs : List ℕ) → IsBeforeAll order s xs → is_in s xs ≡ false
  absent_before s [] before = refl
  absent_before s (x ∷ xs) before = elim (eqb_tells x s) [
    | inl p ↦ absurd (let no : place s order < place s order = subst (λ (k : ℕ). place s order < place k order) p.1 before.0 in omega arith)
    | inr p ↦ rw p.0 (absent_before s xs before.1)
  ]

  before_in : (s t : ℕ) (xs : List ℕ) → IsBeforeAll order s xs → is_in t xs ≡ true → place s order < place t order
  before_in s t [] before found = absurd (cc)
  before_in s t (x ∷ xs) before found = elim (eqb_tells x t) [
    | inl p ↦ subst (λ (k : ℕ). place s order < place k order) p.1 before.0
    | inr p ↦ before_in s t xs before.1 (rw p.0 at found)
  ]

  gone : (s : ℕ) (xs : List ℕ) → IsRising order xs → is_in s (without s xs) ≡ false
  gone s xs rising = (let e = in_without order s s xs rising in rw (eq-eqb s s refl) at e)

  others_in : (s t : ℕ) (xs : List ℕ) → IsRising order xs → t ≢ s → is_in t (without s xs) ≡ is_in t xs
  others_in s t xs rising other = elim (eqb_tells s t) [
    | inl p ↦ absurd (other (sym p.1))
    | inr p ↦ (let e = in_without order t s xs rising in rw p.0 at e)
  ]

  pub is_without : (s : ℕ) (xs : List ℕ) → IsRising order xs → IsWithout s xs (without s xs)
  is_without s xs rising = record { gone = gone s xs rising; others = λ t. others_in s t xs rising }

  -- ---- the earliest

  pub is_earliest : (s : ℕ) (ss : List ℕ) → IsRising order (s ∷ ss) → IsEarliest order (s ∷ ss) s
  is_earliest s ss rising = record {
    there = in_head s ss;
    first = λ t found. elim (eqb_tells s t) [
      | inl p ↦ subst (λ (k : ℕ). place s order ≤ place k order) p.1 (omega arith)
      | inr p ↦ let less : place s order < place t order = before_in s t ss rising.1 (rw p.0 at found) in omega arith
    ];
  }

  pub without_earliest : (s : ℕ) (ss : List ℕ) → IsRising order (s ∷ ss) → IsWithout s (s ∷ ss) ss
  without_earliest s ss rising = record {
    gone = absent_before s ss rising.1;
    others = λ t other. sym (in_other t s ss (λ e. other (sym e)));
  }

  -- ---- a stamp before all others

  pub absent_ahead : (s first : ℕ) (xs : List ℕ) → IsRising order (first ∷ xs) → place s order < place first order → is_in s (first ∷ xs) ≡ false
  absent_ahead s first xs rising less = elim (cases_Bool (is_in s (first ∷ xs))) [
    | inl found ↦ absurd (let le : place first order ≤ place s order = (is_earliest first xs rising).first s found in omega (arith, le, less))
    | inr none ↦ none
  ]

  pub none_ahead : (s first : ℕ) (xs : List ℕ) → IsRising order (first ∷ xs) → place s order < place first order → 0 ≡ count_before order s (first ∷ xs)
  none_ahead s first xs rising less =
      let le : place s order ≤ place first order = omega (arith, less) in
      rw (le-ltb (place first order) (place s order) le) (sym (count_none order s first xs le rising.1))

  -- a stamp that is not before the first one, and is another, is after it
  pub first_counts : (s first : ℕ) (xs : List ℕ) → IsRising order (first ∷ xs) → is_in s order ≡ true → first ≢ s → ¬ (place s order < place first order)
      → suc (count_before order s xs) ≡ count_before order s (first ∷ xs)
  first_counts s first xs rising here other late = elim (cases_lt (place first order) (place s order)) [
    | inl less ↦ let yes : nat_lt (place first order) (place s order) ≡ true = lt-ltb (place first order) (place s order) less in rw yes refl
    | inr le ↦ elim (cases_lt (place s order) (place first order)) [
      | inl less ↦ absurd (late less)
      | inr ge ↦ absurd (other (place_tells first s order rising.0 here (omega (arith, le, ge))))
    ]
  ]

  -- where the earliest is not before a limit, none is
  pub none_before : (first : ℕ) (limit : Option Stamp) (ss : List ℕ) → IsRising order (first ∷ ss) → (IsBefore order limit first → ⊥)
      → (s : ℕ) → is_in s (first ∷ ss) ≡ true → IsBefore order limit s → ⊥
  none_before first None ss rising late s found less = late less
  none_before first (Some limit) ss rising late s found less =
      let earliest : place first order ≤ place s order = (is_earliest first ss rising).first s found in
      late (omega (arith, less))
