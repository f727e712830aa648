-- Lists of stamps with one more, or one less.
use Rattle.std.proofs.Common.{◌≡◌, ◌≢◌, ℕ, suc, zero, inl, inr, ◌<◌, true, false, List, [], ◌∷◌, length, get_or, refl, sym, ap, ◌∙◌, subst, arith}
use Rattle.std.proofs.lemmas.Bool.Decides.{eqb_tells}
use Rattle.std.specs.List.{insert, remove}
use Rattle.ceal_order.specs.Stamps.{NotIn, Distinct, is_in, place, without}
use Rattle.std.proofs.lemmas.Bool.{eq-eqb}
use Rattle.ceal_order.specs.Rising.{IsBeforeAll, IsRising}

in_behind : (t s : ℕ) (xs : List ℕ) → t ≢ s → is_in t (s ∷ xs) ≡ is_in t xs
in_behind t s xs other = elim (eqb_tells s t) [ inl p ↦ absurd (other (sym p.1)) | inr p ↦ rw p.0 refl ]

pub in_besides : (t s n : ℕ) (xs : List ℕ) → t ≢ s → is_in t (insert xs n s) ≡ is_in t xs
in_besides t s zero xs other = in_behind t s xs other
in_besides t s (suc n) [] other = in_behind t s [] other
in_besides t s (suc n) (x ∷ xs) other = elim (eqb_tells x t) [ inl p ↦ rw p.0 refl | inr p ↦ rw p.0 (in_besides t s n xs other) ]

pub without_none : (s : ℕ) (xs : List ℕ) → is_in s xs ≡ false → without s xs ≡ xs
without_none s [] none = refl
without_none s (x ∷ xs) none = elim (eqb_tells x s) [
  | inl p ↦ absurd (let no : true ≡ false = rw p.0 at none in cc)
  | inr p ↦ rw p.0 (ap (λ (l : List ℕ). x ∷ l) (without_none s xs (rw p.0 at none)))
]

-- one that is not there is not there without another
pub absent_without : (t s : ℕ) (xs : List ℕ) → is_in t xs ≡ false → is_in t (without s xs) ≡ false
absent_without t s [] absent = absent
absent_without t s (x ∷ xs) absent = elim (eqb_tells x t) [
  | inl q ↦ absurd (let no : true ≡ false = rw q.0 at absent in cc)
  | inr q ↦ elim (eqb_tells x s) [
    | inl p ↦ rw p.0 (rw q.0 at absent)
    | inr p ↦ rw (p.0, q.0) (absent_without t s xs (rw q.0 at absent))
  ]
]

module _ (s : ℕ) where
  NotIn-without : (a : ℕ) (xs : List ℕ) → NotIn a xs → NotIn a (without s xs)
  NotIn-without a [] none = tt
  NotIn-without a (x ∷ xs) none = elim (eqb_tells x s) [ inl p ↦ rw p.0 none.1 | inr p ↦ rw p.0 (none.0, NotIn-without a xs none.1) ]

  pub Distinct-without : (xs : List ℕ) → Distinct xs → Distinct (without s xs)
  Distinct-without [] once = tt
  Distinct-without (x ∷ xs) once = elim (eqb_tells x s) [ inl p ↦ rw p.0 once.1 | inr p ↦ rw p.0 (NotIn-without x xs once.0, Distinct-without xs once.1) ]

module _ (order : List ℕ) where
  NotIn-before : (s : ℕ) (xs : List ℕ) → IsBeforeAll order s xs → NotIn s xs
  NotIn-before s [] before = tt
  NotIn-before s (x ∷ xs) before = (
    λ same. let no : place s order < place s order = subst (λ (k : ℕ). place s order < place k order) (sym same) before.0 in omega arith,
    NotIn-before s xs before.1,
  )

  pub rising_once : (xs : List ℕ) → IsRising order xs → Distinct xs
  rising_once [] rising = tt
  rising_once (x ∷ xs) rising = (NotIn-before x xs rising.1, rising_once xs rising.2)

-- ---- the place of one that occurs once

NotIn-at : (x : ℕ) (xs : List ℕ) (i : ℕ) → NotIn x xs → i < length xs → get_or xs i 0 ≢ x
NotIn-at x [] i none within = absurd (omega arith)
NotIn-at x (y ∷ ys) zero none within = λ same. none.0 (sym same)
NotIn-at x (y ∷ ys) (suc i) none within = NotIn-at x ys i none.1 (omega arith)

pub without_where : (s : ℕ) (xs : List ℕ) (i : ℕ) → Distinct xs → i < length xs → get_or xs i 0 ≡ s → remove xs i ≡ without s xs
without_where s [] i once within is = absurd (omega arith)
without_where s (x ∷ xs) zero once within is = rw (eq-eqb x s is) refl
without_where s (x ∷ xs) (suc i) once within is = elim (eqb_tells x s) [
  | inl p ↦ absurd (NotIn-at x xs i once.0 (omega arith) (is ∙ sym p.1))
  | inr p ↦ rw p.0 (ap (λ (l : List ℕ). x ∷ l) (without_where s xs i once.1 (omega arith) is))
]
