-- Items of lists that are joined.
use Rattle.std.proofs.Common.{◌≡◌, ℕ, zero, suc, ◌+◌, ◌<◌, Some, List, [], ◌∷◌, ◌++◌, length, slice_get, refl, ap, ◌∙◌, arith}

module _ {X : Type 0} where
  pub get-within : (xs : List X) (i : ℕ) (x : X) → slice_get xs i ≡ Some x → i < length xs
  get-within [] i x h = cc
  get-within (y ∷ ys) zero x h = omega arith
  get-within (y ∷ ys) (suc i) x h = let l = get-within ys i x h in omega (arith, l)

  pub get-append_left : (xs ys : List X) (i : ℕ) → i < length xs → slice_get (xs ++ ys) i ≡ slice_get xs i
  get-append_left [] ys i h = absurd (omega arith)
  get-append_left (x ∷ xs) ys zero h = refl
  get-append_left (x ∷ xs) ys (suc i) h = get-append_left xs ys i (omega arith)

  pub get-append_right : (xs ys : List X) (i k : ℕ) → i ≡ length xs + k → slice_get (xs ++ ys) i ≡ slice_get ys k
  get-append_right [] ys i k e = let same : i ≡ k = omega arith in ap (slice_get ys) same
  get-append_right (x ∷ xs) ys zero k e = absurd (omega arith)
  get-append_right (x ∷ xs) ys (suc i) k e = get-append_right xs ys i k (omega arith)

  -- the item of a part is the item of the whole
  pub get-left : (xs ys : List X) (i : ℕ) (x : X) → slice_get xs i ≡ Some x → slice_get (xs ++ ys) i ≡ Some x
  get-left xs ys i x h = get-append_left xs ys i (get-within xs i x h) ∙ h

  pub get-right : (xs ys : List X) (i k : ℕ) (x : X) → slice_get ys k ≡ Some x → i ≡ length xs + k → slice_get (xs ++ ys) i ≡ Some x
  get-right xs ys i k x h e = get-append_right xs ys i k e ∙ h

  pub get-later : (y : X) (ys : List X) (i k : ℕ) (x : X) → slice_get ys k ≡ Some x → i ≡ k + 1 → slice_get (y ∷ ys) i ≡ Some x
  get-later y ys i k x h e = get-right (y ∷ []) ys i k x h (omega arith)
