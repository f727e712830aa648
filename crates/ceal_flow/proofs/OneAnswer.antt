-- There is one list of live sets.
use Rattle.std.proofs.Common.{◌≡◌, ◌⊎◌, inl, inr, ℕ, suc, ◌<◌, ◌≤◌, true, List, [], ◌∷◌, length, refl, ap₂, sym, ◌∙◌, subst, arith}
use Rattle.std.proofs.lemmas.Bool.Decides.{eqb_tells}
use Rattle.ceal_flow.specs.Live.{AreLiveSets}
use Rattle.ceal_flow.specs.Sets.{is_in, IsBelow, IsAscending, set_at}
use Rattle.ceal_flow.specs.declared.block.GraphBlock.{GraphBlock}

in-first : (x : ℕ) (xs : List ℕ) → is_in x (x ∷ xs) ≡ true
in-first x xs = elim (eqb_tells x x) [ inl p ↦ rw p.0 refl | inr p ↦ absurd (p.1 refl) ]

in-cases : (v x : ℕ) (xs : List ℕ) → is_in v (x ∷ xs) ≡ true → (x ≡ v) ⊎ (is_in v xs ≡ true)
in-cases v x xs h = elim (eqb_tells x v) [ inl p ↦ inl p.1 | inr p ↦ inr (rw p.0 at h) ]

in-later : (v x : ℕ) (xs : List ℕ) → is_in v xs ≡ true → is_in v (x ∷ xs) ≡ true
in-later v x xs h = elim (eqb_tells x v) [ inl p ↦ rw p.0 refl | inr p ↦ rw p.0 h ]

-- the first is the least
above : (x : ℕ) (xs : List ℕ) (v : ℕ) → IsBelow x xs → IsAscending xs → is_in v xs ≡ true → x < v
above x [] v b a h = cc
above x (y ∷ ys) v b a h = elim (in-cases v y ys h) [
  | inl e ↦ omega (arith, b, e)
  | inr k ↦ let l = above y ys v a.0 a.1 k in omega (arith, b, l)
]

at-least : (x : ℕ) (xs : List ℕ) (v : ℕ) → IsAscending (x ∷ xs) → is_in v (x ∷ xs) ≡ true → x ≤ v
at-least x xs v a h = elim (in-cases v x xs h) [
  | inl e ↦ omega (arith, e)
  | inr k ↦ let l = above x xs v a.0 a.1 k in omega (arith, l)
]

tail-in : (x : ℕ) (xs ys : List ℕ) → IsAscending (x ∷ xs) → ((v : ℕ) → is_in v (x ∷ xs) ≡ true → is_in v (x ∷ ys) ≡ true) → (v : ℕ) → is_in v xs ≡ true → is_in v ys ≡ true
tail-in x xs ys a h v k = elim (in-cases v x ys (h v (in-later v x xs k))) [
  | inl e ↦ let l = above x xs v a.0 a.1 k in absurd (omega (arith, l, e))
  | inr m ↦ m
]

-- an ascending list is told by what is in it
pub one-list : (xs ys : List ℕ) → IsAscending xs → IsAscending ys → ((v : ℕ) → is_in v xs ≡ true → is_in v ys ≡ true) → ((v : ℕ) → is_in v ys ≡ true → is_in v xs ≡ true) → xs ≡ ys
one-list [] [] a b h k = refl
one-list [] (y ∷ ys) a b h k = let n = k y (in-first y ys) in cc
one-list (x ∷ xs) [] a b h k = let n = h x (in-first x xs) in cc
one-list (x ∷ xs) (y ∷ ys) a b h k =
    let l = at-least y ys x b (h x (in-first x xs)) in
    let m = at-least x xs y a (k y (in-first y ys)) in
    let same : x ≡ y = omega (arith, l, m) in
    let b2 = subst (λ z. IsAscending (z ∷ ys)) (sym same) b in
    let h2 = subst (λ z. (v : ℕ) → is_in v (x ∷ xs) ≡ true → is_in v (z ∷ ys) ≡ true) (sym same) h in
    let k2 = subst (λ z. (v : ℕ) → is_in v (z ∷ ys) ≡ true → is_in v (x ∷ xs) ≡ true) (sym same) k in
    ap₂ (λ z zs. z ∷ zs) same (one-list xs ys a.1 b.1 (tail-in x xs ys a h2) (tail-in x ys xs b2 k2))

same-sets : (s t : List (List ℕ)) → length s ≡ length t → ((b : ℕ) → b < length s → set_at s b ≡ set_at t b) → s ≡ t
same-sets [] [] l h = refl
same-sets [] (y ∷ ys) l h = absurd (omega (arith, l))
same-sets (x ∷ xs) [] l h = absurd (omega (arith, l))
same-sets (x ∷ xs) (y ∷ ys) l h = ap₂ (λ z zs. z ∷ zs) (h 0 (omega arith)) (same-sets xs ys (omega (arith, l)) (λ b m. h (suc b) (omega (arith, m))))

pub one-answer : (blocks : List GraphBlock) (s t : List (List ℕ)) → AreLiveSets blocks s → AreLiveSets blocks t → s ≡ t
one-answer blocks s t a b =
    same-sets s t (a.each ∙ sym b.each) (λ k l.
    let within : k < length blocks = subst (λ n. k < n) a.each l in
    one-list (set_at s k) (set_at t k) (a.ascending k) (b.ascending k)
    (λ v h. (b.exact k v within).1 ((a.exact k v within).0 h)) (λ v h. (a.exact k v within).1 ((b.exact k v within).0 h)))
