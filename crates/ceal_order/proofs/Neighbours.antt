-- The links before and after one, and the labels beyond them.
use Rattle.std.proofs.Common.{◌≡◌, ◌≢◌, ℕ, inl, inr, ◌+◌, ◌<◌, ◌≤◌, ◌^◌, true, List, [], ◌∷◌, length, sym, ap, subst, ◌∙◌, arith}
use Rattle.std.proofs.lemmas.Bool.Decides.{eqb_tells}
use Rattle.std.proofs.lemmas.Bool.{cases_lt}
use Rattle.ceal_order.specs.declared.link.Link.{Link}
use Rattle.ceal_order.specs.Stamps.{Distinct, is_in, place}
use Rattle.ceal_order.specs.Links.{no_link, Chained, Rising, IsLine, next_of, prev_of, label_of}
use Rattle.ceal_order.proofs.Places.{in_head, below_of, place_head, place_tail, place_tells, successor_place, last_place}
use Rattle.ceal_order.proofs.Chains.{prev_where, successor_inside, successor_at_end, label_place, label_low}

prev_place : (prev label : ℕ → ℕ) (s x : ℕ) (xs : List ℕ) → Rising prev label (x ∷ xs) → Distinct (x ∷ xs) → is_in s xs ≡ true → place (prev s) (x ∷ xs) + 1 ≡ place s (x ∷ xs)
prev_place prev label s x [] rising distinct found = absurd (cc)
prev_place prev label s x (y ∷ ys) rising distinct found = elim (eqb_tells y s) [
  | inl p ↦
      let is : prev s ≡ x = ap prev (sym p.1) ∙ rising.1.0 in
      let one : place y (x ∷ y ∷ ys) ≡ 1 = place_tail y x (y ∷ ys) distinct.0 (in_head y ys) ∙ ap (λ (k : ℕ). 1 + k) (place_head y ys) in
      let at : place s (x ∷ y ∷ ys) ≡ 1 = subst (λ (k : ℕ). place k (x ∷ y ∷ ys) ≡ 1) p.1 one in
      let front : place (prev s) (x ∷ y ∷ ys) ≡ 0 = subst (λ (k : ℕ). place k (x ∷ y ∷ ys) ≡ 0) (sym is) (place_head x (y ∷ ys)) in
      omega arith
  | inr p ↦
      let rest : is_in s ys ≡ true = rw p.0 at found in
      let less : place (prev s) (y ∷ ys) + 1 ≡ place s (y ∷ ys) = prev_place prev label s y ys rising.2 distinct.1 rest in
      let before : place (prev s) (x ∷ y ∷ ys) ≡ 1 + place (prev s) (y ∷ ys) = place_tail (prev s) x (y ∷ ys) distinct.0 (prev_where prev label s y ys rising.2 rest) in
      let at : place s (x ∷ y ∷ ys) ≡ 1 + place s (y ∷ ys) = place_tail s x (y ∷ ys) distinct.0 found in
      omega arith
]

-- any other one has one before it
pub one_before : (next prev label : ℕ → ℕ) (s : ℕ) (xs : List ℕ) → Chained next 0 xs → Rising prev label xs → Distinct xs → is_in s xs ≡ true → s ≢ 0
    → (is_in (prev s) xs ≡ true) × (place (prev s) xs + 1 ≡ place s xs)
one_before next prev label s [] h rising distinct found other = absurd (cc)
one_before next prev label s (x ∷ xs) h rising distinct found other = elim (eqb_tells x s) [
  | inl p ↦ absurd (other (sym p.1 ∙ sym h.0))
  | inr p ↦
      let rest : is_in s xs ≡ true = rw p.0 at found in
      (prev_where prev label s x xs rising rest, prev_place prev label s x xs rising distinct rest)
]

module _ (links : List Link) (S : List ℕ) (line : IsLine links S) where
  pub before_is : (s : ℕ) → is_in s S ≡ true → s ≢ 0 → (is_in (prev_of links s) S ≡ true) × (place (prev_of links s) S + 1 ≡ place s S)
  before_is s found other = one_before (next_of links) (prev_of links) (label_of links) s S line.live line.rising line.distinct found other

  pub after_is : (s : ℕ) → is_in s S ≡ true → next_of links s ≢ no_link → (is_in (next_of links s) S ≡ true) × (place (next_of links s) S ≡ place s S + 1)
  after_is s found inside =
      successor_place s (next_of links s) S line.distinct
      (successor_inside (next_of links) 0 s (length links) S line.few line.within line.live found inside)

  pub after_none : (s : ℕ) → is_in s S ≡ true → next_of links s ≡ no_link → place s S + 1 ≡ length S
  after_none s found last = last_place s S found (successor_at_end (next_of links) 0 s (length links) S line.few line.within line.live found last)

  pub link_in : (s : ℕ) → is_in s S ≡ true → s < length links
  link_in s found = below_of s (length links) S found line.within

  pub label_in : (s : ℕ) → is_in s S ≡ true → label_of links s < 2 ^ 62
  label_in s found = label_low (prev_of links) (label_of links) s S line.rising found

  pub rises : (a b : ℕ) → is_in a S ≡ true → is_in b S ≡ true → place a S < place b S → label_of links a < label_of links b
  rises a b a_in b_in less = (label_place (prev_of links) (label_of links) S a b line.rising a_in b_in).1 less

  -- labels up to one place
  rises_to : (a b : ℕ) → is_in a S ≡ true → is_in b S ≡ true → place a S ≤ place b S → label_of links a ≤ label_of links b
  rises_to a b a_in b_in le = elim (cases_lt (place a S) (place b S)) [
    | inl p ↦ let less = rises a b a_in b_in p in omega (arith, less)
    | inr p ↦ let same : place a S ≡ place b S = omega arith in let one = ap (label_of links) (place_tells a b S a_in b_in same) in omega (arith, one)
  ]

  pub low_before : (first before low : ℕ) → is_in before S ≡ true → place before S + 1 ≡ place first S → label_of links before < low
      → (s : ℕ) → is_in s S ≡ true → place s S < place first S → label_of links s < low
  low_before first before low found next_to less s s_in lower =
      let le : place s S ≤ place before S = omega arith in
      let most = rises_to s before s_in found le in omega (arith, most)

  pub high_after : (last after high : ℕ) → is_in after S ≡ true → place after S ≡ place last S + 1 → high ≤ label_of links after
      → (s : ℕ) → is_in s S ≡ true → place last S < place s S → high ≤ label_of links s
  high_after last after high found next_to le s s_in higher =
      let later : place after S ≤ place s S = omega arith in
      let least = rises_to after s found s_in later in omega (arith, least)
