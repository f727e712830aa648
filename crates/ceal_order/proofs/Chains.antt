-- Links that lie one after another.
use Rattle.std.proofs.Common.{◌≡◌, ◌≢◌, ℕ, zero, suc, inl, inr, ◌⊎◌, ◌+◌, ◌<◌, ◌≤◌, ◌^◌, true, false, List, [], ◌∷◌, ◌++◌, length, refl, sym, ap, subst, ◌∙◌, arith, Some, None}
use Rattle.std.specs.Bool.{◌==◌, if◌then◌else◌}
use Rattle.std.proofs.lemmas.Bool.Decides.{eqb_tells}
use Rattle.std.proofs.lemmas.Bool.{eq-eqb}
use Rattle.ceal_order.specs.declared.link.Link.{Link}
use Rattle.ceal_order.specs.Stamps.{IsOrder, NotIn, Distinct, AllBelow, is_in, place, successor, head_of}
use Rattle.ceal_order.specs.Links.{no_link, chain, Chained, Ahead, Rising, Sound, IsLine, next_of, stamps_of, spares_of}
use Rattle.ceal_order.proofs.Places.{in_head, in_tail, place_head, AllBelow-more}

pub is_link : (n k : ℕ) → n < 2 ^ 32 → k < n → k ≢ no_link
is_link n k few low same = absurd (omega arith)

-- ---- what a view reads

pub chain_of_Chained : (m n : ℕ) (next : ℕ → ℕ) (at : ℕ) (xs : List ℕ) → n < 2 ^ 32 → AllBelow n xs → length xs ≤ m → Chained next at xs → chain m next at ≡ xs
chain_of_Chained zero n next at [] few below short h = refl
chain_of_Chained (suc m) n next at [] few below short h = rw (eq-eqb at no_link h) refl
chain_of_Chained zero n next at (x ∷ xs) few below short h = absurd (omega arith)
chain_of_Chained (suc m) n next at (x ∷ xs) few below short h = elim (eqb_tells at no_link) [
  | inl p ↦ absurd (is_link n x few below.0 (sym h.0 ∙ p.1))
  | inr p ↦
      let less : length xs ≤ m = omega arith in
      rw (p.0, h.0) (ap (λ (l : List ℕ). x ∷ l) (chain_of_Chained m n next (next x) xs few below.1 less h.1))
]

pub AllBelow-front : (n : ℕ) (xs ys : List ℕ) → AllBelow n (xs ++ ys) → AllBelow n xs
AllBelow-front n [] ys h = tt
AllBelow-front n (x ∷ xs) ys h = (h.0, AllBelow-front n xs ys h.1)

pub AllBelow-back : (n : ℕ) (xs ys : List ℕ) → AllBelow n (xs ++ ys) → AllBelow n ys
AllBelow-back n [] ys h = h
AllBelow-back n (x ∷ xs) ys h = AllBelow-back n xs ys h.1

NotIn-front : (s : ℕ) (xs ys : List ℕ) → NotIn s (xs ++ ys) → NotIn s xs
NotIn-front s [] ys h = tt
NotIn-front s (x ∷ xs) ys h = (h.0, NotIn-front s xs ys h.1)

-- the first of distinct numbers are distinct
pub Distinct-front : (xs ys : List ℕ) → Distinct (xs ++ ys) → Distinct xs
Distinct-front [] ys h = tt
Distinct-front (x ∷ xs) ys h = (NotIn-front x xs ys h.0, Distinct-front xs ys h.1)

module _ (links : List Link) (free spare : ℕ) (S F : List ℕ) (sound : Sound links free spare S F) where
  pub stamps_are : stamps_of links ≡ S
  stamps_are =
      let short : length S ≤ length links = omega (arith, sound.all) in
      chain_of_Chained (length links) (length links) (next_of links) 0 S sound.few (AllBelow-front (length links) S F sound.within) short sound.live

  pub spares_are : spares_of links free ≡ F
  spares_are =
      let short : length F ≤ length links = omega (arith, sound.all) in
      chain_of_Chained (length links) (length links) (next_of links) free F sound.few (AllBelow-back (length links) S F sound.within) short sound.kept

  pub seen : Sound links free spare (stamps_of links) (spares_of links free)
  seen = rw (stamps_are, spares_are) sound

  pub line : IsLine links S
  line = record {
    live = sound.live;
    rising = sound.rising;
    distinct = Distinct-front S F sound.distinct;
    within = AllBelow-front (length links) S F sound.within;
    few = sound.few;
    all = omega (arith, sound.all);
  }

  -- what callers may know
  pub order_is : IsOrder (record { stamps = S; spare = spare })
  order_is =
      let most : length links ≤ length S + spare = let whole = sound.all in let room = sound.room in omega (arith, whole, room) in
      record {
        distinct = Distinct-front S F sound.distinct;
        below = AllBelow-more (length links) (length S + spare) S most (AllBelow-front (length links) S F sound.within);
        few = let whole = sound.all in let room = sound.room in let few = sound.few in omega (arith, whole, room, few);
      }

pub first_there : (next : ℕ → ℕ) (xs : List ℕ) → Chained next 0 xs → (is_in 0 xs ≡ true) × (place 0 xs ≡ 0)
first_there next [] h = absurd (omega (arith, h))
first_there next (x ∷ xs) h = subst (λ (k : ℕ). (is_in k (x ∷ xs) ≡ true) × (place k (x ∷ xs) ≡ 0)) (sym h.0) (in_head x xs, place_head x xs)

-- ---- the same links

module _ (next next' : ℕ → ℕ) (same : (k : ℕ) → next' k ≡ next k) where
  pub Chained-as : (at : ℕ) (xs : List ℕ) → Chained next at xs → Chained next' at xs
  Chained-as at [] h = h
  Chained-as at (x ∷ xs) h = (h.0, rw (same x) (Chained-as (next x) xs h.1))

-- ---- labels and places

-- labels of later stamps are higher
above_in : (prev label : ℕ → ℕ) (x b : ℕ) (xs : List ℕ) → Ahead prev label x xs → Rising prev label xs → is_in b xs ≡ true → label x < label b
above_in prev label x b [] ahead rising found = absurd (cc)
above_in prev label x b (y ∷ ys) ahead rising found = elim (eqb_tells y b) [
  | inl p ↦ subst (λ (k : ℕ). label x < label k) p.1 ahead.1
  | inr p ↦ let later : label y < label b = above_in prev label y b ys rising.1 rising.2 (rw p.0 at found) in omega (arith, ahead.1)
]

-- labels are in the order of places
pub label_place : (prev label : ℕ → ℕ) (xs : List ℕ) (a b : ℕ) → Rising prev label xs → is_in a xs ≡ true → is_in b xs ≡ true
    → (label a < label b → place a xs < place b xs) × (place a xs < place b xs → label a < label b)
label_place prev label [] a b rising found also = absurd (cc)
label_place prev label (x ∷ xs) a b rising found also = elim (eqb_tells x a) [
  | inl p ↦ elim (eqb_tells x b) [
    | inl q ↦ rw (p.0, q.0) (let same : label a ≡ label b = ap label (sym p.1 ∙ q.1) in (λ h. absurd (omega arith), λ h. absurd (omega arith)))
    | inr q ↦ rw (p.0, q.0) (let later : label a < label b = subst (λ (k : ℕ). label k < label b) p.1 (above_in prev label x b xs rising.1 rising.2 (rw q.0 at also)) in (λ h. omega arith, λ h. later))
  ]
  | inr p ↦ elim (eqb_tells x b) [
    | inl q ↦ rw (p.0, q.0) (let later : label b < label a = subst (λ (k : ℕ). label k < label a) q.1
        (above_in prev label x a xs rising.1 rising.2 (rw p.0 at found)) in
        (λ h. absurd (omega arith), λ h. absurd (omega arith)))
    | inr q ↦ rw (p.0, q.0) (let rest = label_place prev label xs a b rising.2 (rw p.0 at found) (rw q.0 at also) in (λ h. omega (arith, rest.0 h), λ h. rest.1 (omega arith)))
  ]
]

pub label_low : (prev label : ℕ → ℕ) (s : ℕ) (xs : List ℕ) → Rising prev label xs → is_in s xs ≡ true → label s < 2 ^ 62
label_low prev label s [] h found = absurd (cc)
label_low prev label s (x ∷ xs) h found = elim (eqb_tells x s) [
  | inl p ↦ subst (λ (k : ℕ). label k < 2 ^ 62) p.1 h.0
  | inr p ↦ label_low prev label s xs h.2 (rw p.0 at found)
]

-- ---- what follows a link

head_is : (next : ℕ → ℕ) (at n : ℕ) (xs : List ℕ) → n < 2 ^ 32 → AllBelow n xs → Chained next at xs → head_of xs ≡ (if at == no_link then None else Some at)
head_is next at n [] few below chained = rw (eq-eqb at no_link chained) refl
head_is next at n (x ∷ xs) few below chained = elim (eqb_tells at no_link) [
  | inl p ↦ absurd (omega (arith, below.0, chained.0, p.1))
  | inr p ↦ rw p.0 (ap (λ (k : ℕ). Some k) (sym chained.0))
]

-- what the link of a stamp says of the one after it
successor_is : (next : ℕ → ℕ) (at s n : ℕ) (xs : List ℕ) → n < 2 ^ 32 → AllBelow n xs → Chained next at xs → is_in s xs ≡ true
    → successor s xs ≡ (if next s == no_link then None else Some (next s))
successor_is next at s n [] few below chained found = absurd (cc)
successor_is next at s n (x ∷ xs) few below chained found = elim (eqb_tells x s) [
  | inl p ↦ rw p.0 (subst (λ (k : ℕ). head_of xs ≡ (if next k == no_link then None else Some (next k))) p.1 (head_is next (next x) n xs few below.1 chained.1))
  | inr p ↦ rw p.0 (successor_is next (next x) s n xs few below.1 chained.1 (rw p.0 at found))
]

pub successor_at_end : (next : ℕ → ℕ) (at s n : ℕ) (xs : List ℕ) → n < 2 ^ 32 → AllBelow n xs → Chained next at xs → is_in s xs ≡ true
    → next s ≡ no_link → successor s xs ≡ None
successor_at_end next at s n xs few below chained found last =
    successor_is next at s n xs few below chained found ∙ ap (λ b. if b then None else Some (next s)) (eq-eqb (next s) no_link last)

pub successor_inside : (next : ℕ → ℕ) (at s n : ℕ) (xs : List ℕ) → n < 2 ^ 32 → AllBelow n xs → Chained next at xs → is_in s xs ≡ true
    → next s ≢ no_link → successor s xs ≡ Some (next s)
successor_inside next at s n xs few below chained found inside = elim (eqb_tells (next s) no_link) [
  | inl p ↦ absurd (inside p.1)
  | inr p ↦ successor_is next at s n xs few below chained found ∙ rw p.0 refl
]

-- what is after a stamp is none or a stamp
pub next_where : (next : ℕ → ℕ) (at s : ℕ) (xs : List ℕ) → Chained next at xs → is_in s xs ≡ true → (next s ≡ no_link) ⊎ (is_in (next s) xs ≡ true)
next_where next at s [] h found = absurd (cc)
next_where next at s (x ∷ []) h found = elim (eqb_tells x s) [
  | inl p ↦ inl (ap next (sym p.1) ∙ h.1)
  | inr p ↦ absurd (let no : false ≡ true = rw p.0 at found in cc)
]
next_where next at s (x ∷ y ∷ ys) h found = elim (eqb_tells x s) [
  | inl p ↦ inr (subst (λ (k : ℕ). is_in k (x ∷ y ∷ ys) ≡ true) (sym h.1.0 ∙ ap next p.1) (in_tail y x (y ∷ ys) (in_head y ys)))
  | inr p ↦ elim (next_where next (next x) s (y ∷ ys) h.1 (rw p.0 at found)) [
    | inl last ↦ inl last
    | inr here ↦ inr (in_tail (next s) x (y ∷ ys) here)
  ]
]

-- what is before a stamp that is not the first is a stamp
pub prev_where : (prev label : ℕ → ℕ) (s x : ℕ) (xs : List ℕ) → Rising prev label (x ∷ xs) → is_in s xs ≡ true → is_in (prev s) (x ∷ xs) ≡ true
prev_where prev label s x [] rising found = absurd (cc)
prev_where prev label s x (y ∷ ys) rising found = elim (eqb_tells y s) [
  | inl p ↦ subst (λ (k : ℕ). is_in k (x ∷ y ∷ ys) ≡ true) (sym rising.1.0 ∙ ap prev p.1) (in_head x (y ∷ ys))
  | inr p ↦ in_tail (prev s) x (y ∷ ys) (prev_where prev label s y ys rising.2 (rw p.0 at found))
]

-- the one after a stamp points back to it
pub prev_next : (next prev label : ℕ → ℕ) (at s : ℕ) (xs : List ℕ) → Chained next at xs → Rising prev label xs → is_in s xs ≡ true → next s ≢ no_link → prev (next s) ≡ s
prev_next next prev label at s [] h rising found inside = absurd (cc)
prev_next next prev label at s (x ∷ []) h rising found inside = elim (eqb_tells x s) [
  | inl p ↦ absurd (inside (ap next (sym p.1) ∙ h.1))
  | inr p ↦ absurd (let no : false ≡ true = rw p.0 at found in cc)
]
prev_next next prev label at s (x ∷ y ∷ ys) h rising found inside = elim (eqb_tells x s) [
  | inl p ↦ subst (λ (k : ℕ). prev (next k) ≡ k) p.1 (ap prev h.1.0 ∙ rising.1.0)
  | inr p ↦ prev_next next prev label (next x) s (y ∷ ys) h.1 rising.2 (rw p.0 at found) inside
]
