-- Stamps in a list.
use Rattle.std.proofs.Common.{◌≡◌, ◌≢◌, ℕ, suc, inl, inr, ◌+◌, ◌<◌, ◌≤◌, true, false, List, [], ◌∷◌, length, refl, sym, ap, subst, ◌∙◌, arith, Some}
use Rattle.std.proofs.lemmas.Bool.Decides.{eqb_tells}
use Rattle.std.proofs.lemmas.Bool.{eq-eqb}
use Rattle.ceal_order.specs.Stamps.{NotIn, AllBelow, is_in, place, head_of, with_after, without, OneMore}

pub in_head : (x : ℕ) (xs : List ℕ) → is_in x (x ∷ xs) ≡ true
in_head x xs = rw (eq-eqb x x refl) refl

pub in_tail : (s x : ℕ) (xs : List ℕ) → is_in s xs ≡ true → is_in s (x ∷ xs) ≡ true
in_tail s x xs found = elim (eqb_tells x s) [ inl p ↦ rw p.0 refl | inr p ↦ rw p.0 found ]

-- one of these is none but these
pub apart : (s u : ℕ) (xs : List ℕ) → is_in s xs ≡ true → is_in u xs ≡ false → s ≢ u
apart s u xs found none same = absurd (let no : true ≡ false = sym found ∙ (ap (λ (k : ℕ). is_in k xs) same ∙ none) in cc)

pub NotIn-apart : (s x : ℕ) (xs : List ℕ) → NotIn x xs → is_in s xs ≡ true → s ≢ x
NotIn-apart s x [] none found same = absurd (cc)
NotIn-apart s x (y ∷ ys) none found same = elim (eqb_tells y s) [
  | inl p ↦ none.0 (sym (p.1 ∙ same))
  | inr p ↦ NotIn-apart s x ys none.1 (rw p.0 at found) same
]

pub below_of : (s n : ℕ) (xs : List ℕ) → is_in s xs ≡ true → AllBelow n xs → s < n
below_of s n [] found below = absurd (cc)
below_of s n (x ∷ xs) found below = elim (eqb_tells x s) [
  | inl p ↦ subst (λ (k : ℕ). k < n) p.1 below.0
  | inr p ↦ below_of s n xs (rw p.0 at found) below.1
]

pub head_in : (s : ℕ) (xs : List ℕ) → head_of xs ≡ Some s → is_in s xs ≡ true
head_in s [] h = absurd (cc)
head_in s (x ∷ xs) h = let same : x ≡ s = cc in rw (eq-eqb x s same) refl

-- two stamps at one place are one
pub place_tells : (a b : ℕ) (xs : List ℕ) → is_in a xs ≡ true → is_in b xs ≡ true → place a xs ≡ place b xs → a ≡ b
place_tells a b [] found also same = absurd (cc)
place_tells a b (x ∷ xs) found also same = elim (eqb_tells x a) [
  | inl p ↦ elim (eqb_tells x b) [
    | inl q ↦ sym p.1 ∙ q.1
    | inr q ↦ let no : 0 ≡ 1 + place b xs = rw (p.0, q.0) at same in absurd (omega arith)
  ]
  | inr p ↦ elim (eqb_tells x b) [
    | inl q ↦ let no : 1 + place a xs ≡ 0 = rw (p.0, q.0) at same in absurd (omega arith)
    | inr q ↦
        let rest : 1 + place a xs ≡ 1 + place b xs = rw (p.0, q.0) at same in
        let less : place a xs ≡ place b xs = omega arith in place_tells a b xs (rw p.0 at found) (rw q.0 at also) less
  ]
]

-- what is up to another one still is among more of them
pub up_to : (more a b : ℕ) (fewer all : List ℕ) → OneMore more fewer all → is_in a fewer ≡ true → is_in b fewer ≡ true
    → place a fewer ≤ place b fewer → place a all ≤ place b all
up_to more a b fewer all one a_in b_in low = elim (eqb_tells a b) [
  | inl p ↦ let same : place a all ≡ place b all = ap (λ (k : ℕ). place k all) p.1 in omega arith
  | inr p ↦
      let other : place a fewer ≢ place b fewer = λ e. p.1 (place_tells a b fewer a_in b_in e) in
      let less : place a fewer < place b fewer = omega arith in
      let later : place a all < place b all = (one.order a b a_in b_in).0 less in
      omega arith
]

-- ---- one stamp more

pub length-after : (s n : ℕ) (xs : List ℕ) → is_in s xs ≡ true → length (with_after s n xs) ≡ suc (length xs)
length-after s n [] found = absurd (cc)
length-after s n (x ∷ xs) found = elim (eqb_tells x s) [
  | inl p ↦ rw p.0 refl
  | inr p ↦ rw p.0 (ap (λ (k : ℕ). suc k) (length-after s n xs (rw p.0 at found)))
]

pub head-after : (s n : ℕ) (xs : List ℕ) → head_of (with_after s n xs) ≡ head_of xs
head-after s n [] = refl
head-after s n (x ∷ xs) = elim (eqb_tells x s) [ inl p ↦ rw p.0 refl | inr p ↦ rw p.0 refl ]

-- ---- one stamp less

pub length-without : (s : ℕ) (xs : List ℕ) → is_in s xs ≡ true → suc (length (without s xs)) ≡ length xs
length-without s [] found = absurd (cc)
length-without s (x ∷ xs) found = elim (eqb_tells x s) [
  | inl p ↦ rw p.0 refl
  | inr p ↦ rw p.0 (ap (λ (k : ℕ). suc k) (length-without s xs (rw p.0 at found)))
]

pub head-without : (s : ℕ) (xs : List ℕ) → head_of xs ≢ Some s → head_of (without s xs) ≡ head_of xs
head-without s [] other = refl
head-without s (x ∷ xs) other = elim (eqb_tells x s) [
  | inl p ↦ absurd (other (ap (λ (k : ℕ). Some k) p.1))
  | inr p ↦ rw p.0 refl
]
