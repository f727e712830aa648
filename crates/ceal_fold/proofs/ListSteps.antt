-- Lists that are read and written at an index.
use Rattle.std.proofs.Common.{◌≡◌, ℕ, zero, suc, ◌+◌, ◌<◌, List, [], ◌∷◌, refl, ap, length, arith, slice_get, slice_set, unwrap_or}

module _ {A : Type 0} (d : A) where
  pub at-same : (xs : List A) (i : ℕ) (x : A) → i < length xs → unwrap_or (slice_get (slice_set xs i x) i) d ≡ x
  at-same [] i x h = absurd (omega (arith, h))
  at-same (y ∷ xs) zero x h = refl
  at-same (y ∷ xs) (suc i) x h = at-same xs i x (omega (arith, h))

  pub at-other : (xs : List A) (i : ℕ) (x : A) (u : ℕ) → (u ≡ i → ⊥) → unwrap_or (slice_get (slice_set xs i x) u) d ≡ unwrap_or (slice_get xs u) d
  at-other [] i x u h = refl
  at-other (y ∷ xs) zero x zero h = absurd (h refl)
  at-other (y ∷ xs) zero x (suc u) h = refl
  at-other (y ∷ xs) (suc i) x zero h = refl
  at-other (y ∷ xs) (suc i) x (suc u) h = at-other xs i x u (λ e. h (ap suc e))

  pub at-past : (xs : List A) (u : ℕ) → length xs < u + 1 → unwrap_or (slice_get xs u) d ≡ d
  at-past [] u h = refl
  at-past (y ∷ xs) zero h = absurd (omega (arith, h))
  at-past (y ∷ xs) (suc u) h = at-past xs u (omega (arith, h))
