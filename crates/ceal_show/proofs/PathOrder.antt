-- The order of paths.
use Rattle.std.proofs.Common.{◌≡◌, ℕ, ◌<◌, List, [], ◌∷◌, ◌++◌, length, refl, sym, ap, ◌∙◌, subst, arith, inl, inr, length-append}
use Rattle.std.specs.Prelude.{◌⊎◌}
use Rattle.std.proofs.lemmas.Bool.{cases_lt}
use Rattle.ceal_show.specs.Paths.{IsEarlier, IsLess}

abbrev pub IsAtMost : List ℕ → List ℕ → Type 0
IsAtMost p q = (p ≡ q) ⊎ IsLess p q

cases_three : (a b : ℕ) → (a < b) ⊎ (a ≡ b) ⊎ (b < a)
cases_three a b = elim (cases_lt a b) [
  | inl h ↦ inl h
  | inr h ↦ elim (cases_lt b a) [ inl k ↦ inr (inr k) | inr k ↦ inr (inl (omega arith)) ]
]

earlier_trans : (p q r : List ℕ) → IsEarlier p q → IsEarlier q r → IsEarlier p r
earlier_trans [] q r h k = absurd h
earlier_trans (a ∷ p) [] r h k = absurd h
earlier_trans (a ∷ p) (b ∷ q) [] h k = absurd k
earlier_trans (a ∷ p) (b ∷ q) (c ∷ r) (inl h) (inl k) = inl (omega arith)
earlier_trans (a ∷ p) (b ∷ q) (c ∷ r) (inl h) (inr k) = inl (let e = k.0 in omega arith)
earlier_trans (a ∷ p) (b ∷ q) (c ∷ r) (inr h) (inl k) = inl (let e = h.0 in omega arith)
earlier_trans (a ∷ p) (b ∷ q) (c ∷ r) (inr h) (inr k) = inr (h.0 ∙ k.0, earlier_trans p q r h.1 k.1)

earlier_irrefl : (p : List ℕ) → IsEarlier p p → ⊥
earlier_irrefl [] h = h
earlier_irrefl (a ∷ p) (inl h) = omega arith
earlier_irrefl (a ∷ p) (inr h) = earlier_irrefl p h.1

earlier_append : (p q r s : List ℕ) → IsEarlier p q → IsEarlier (p ++ r) (q ++ s)
earlier_append [] q r s h = absurd h
earlier_append (a ∷ p) [] r s h = absurd h
earlier_append (a ∷ p) (b ∷ q) r s (inl h) = inl h
earlier_append (a ∷ p) (b ∷ q) r s (inr h) = inr (h.0, earlier_append p q r s h.1)

earlier_total : (p q : List ℕ) → length p ≡ length q → (p ≡ q) ⊎ IsEarlier p q ⊎ IsEarlier q p
earlier_total [] [] l = inl refl
earlier_total [] (b ∷ q) l = absurd (omega (arith, l))
earlier_total (a ∷ p) [] l = absurd (omega (arith, l))
earlier_total (a ∷ p) (b ∷ q) l = elim (cases_three a b) [
  | inl h ↦ inr (inl (inl h))
  | inr (inr h) ↦ inr (inr (inl h))
  | inr (inl e) ↦ elim (earlier_total p q (omega (arith, l))) [
    | inl f ↦ inl (let g = f in cc)
    | inr (inl h) ↦ inr (inl (inr (e, h)))
    | inr (inr h) ↦ inr (inr (inr (sym e, h)))
  ]
]

earlier_last : (p : List ℕ) (m n : ℕ) → m < n → IsEarlier (p ++ m ∷ []) (p ++ n ∷ [])
earlier_last [] m n h = inl h
earlier_last (a ∷ p) m n h = inr (refl, earlier_last p m n h)

pub less_trans : (p q r : List ℕ) → IsLess p q → IsLess q r → IsLess p r
less_trans p q r (inl h) (inl k) = inl (omega arith)
less_trans p q r (inl h) (inr k) = inl (let e = k.0 in omega arith)
less_trans p q r (inr h) (inl k) = inl (let e = h.0 in omega arith)
less_trans p q r (inr h) (inr k) = inr (h.0 ∙ k.0, earlier_trans p q r h.1 k.1)

pub less_irrefl : (p : List ℕ) → IsLess p p → ⊥
less_irrefl p (inl h) = omega arith
less_irrefl p (inr h) = earlier_irrefl p h.1

pub less_total : (p q : List ℕ) → (p ≡ q) ⊎ IsLess p q ⊎ IsLess q p
less_total p q = elim (cases_three (length p) (length q)) [
  | inl h ↦ inr (inl (inl h))
  | inr (inr h) ↦ inr (inr (inl h))
  | inr (inl e) ↦ elim (earlier_total p q e) [
    | inl f ↦ inl f
    | inr (inl h) ↦ inr (inl (inr (e, h)))
    | inr (inr h) ↦ inr (inr (inr (sym e, h)))
  ]
]

-- whatever is after paths of one length more
pub less_append : (p q r s : List ℕ) → length r ≡ length s → IsLess p q → IsLess (p ++ r) (q ++ s)
less_append p q r s l (inl h) = let a = length-append p r in let b = length-append q s in inl (omega (arith, a, b, l))
less_append p q r s l (inr h) =
    let a = length-append p r in
    let b = length-append q s in
    inr (omega (arith, a, b, l, h.0), earlier_append p q r s h.1)

pub less_last : (p : List ℕ) (m n : ℕ) → m < n → IsLess (p ++ m ∷ []) (p ++ n ∷ [])
less_last p m n h =
    let a = length-append p (m ∷ []) in
    let b = length-append p (n ∷ []) in
    inr (omega (arith, a, b), earlier_last p m n h)

-- a path is continued to a larger one
pub less_more : (p : List ℕ) (m : ℕ) → IsLess p (p ++ m ∷ [])
less_more p m = let a = length-append p (m ∷ []) in inl (omega (arith, a))

pub at_most_append : (p q r : List ℕ) → IsAtMost p q → IsAtMost (p ++ r) (q ++ r)
at_most_append p q r (inl e) = inl (ap (λ (l : List ℕ). l ++ r) e)
at_most_append p q r (inr h) = inr (less_append p q r r refl h)

pub at_most_trans : (p q r : List ℕ) → IsAtMost p q → IsAtMost q r → IsAtMost p r
at_most_trans p q r (inl e) k = subst (λ (l : List ℕ). IsAtMost l r) (sym e) k
at_most_trans p q r (inr h) (inl f) = inr (subst (IsLess p) f h)
at_most_trans p q r (inr h) (inr k) = inr (less_trans p q r h k)

pub at_most_not_less : (p q : List ℕ) → IsAtMost p q → IsLess q p → ⊥
at_most_not_less p q (inl e) h = less_irrefl p (subst (λ (l : List ℕ). IsLess l p) (sym e) h)
at_most_not_less p q (inr k) h = less_irrefl p (less_trans p q p k h)
