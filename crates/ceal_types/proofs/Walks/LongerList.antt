-- A list that is another one with more after it.
use Rattle.std.proofs.Common.{◌≡◌, ℕ, zero, suc, Some, List, [], ◌∷◌, ◌++◌, length, take, slice_get, refl, ap, ◌∙◌, append_assoc}

pub record Grows {A : Type 0} (xs ys : List A) : Type 0 where
  pub more : List A
  pub is : ys ≡ xs ++ more

module _ {A : Type 0} where
  append-none : (xs : List A) → xs ≡ xs ++ []
  append-none [] = refl
  append-none (x ∷ xs) = ap (λ (l : List A). x ∷ l) (append-none xs)

  pub grows-same : (xs : List A) → Grows xs xs
  grows-same xs = record { more = []; is = append-none xs }

  pub grows-more : (xs ys : List A) (y : A) → Grows xs ys → Grows xs (ys ++ y ∷ [])
  grows-more xs ys y g = record { more = g.more ++ y ∷ []; is = ap (λ (l : List A). l ++ y ∷ []) g.is ∙ append_assoc xs g.more (y ∷ []) }

  pub grows-on : (xs ys zs : List A) → Grows xs ys → Grows ys zs → Grows xs zs
  grows-on xs ys zs g h = record { more = g.more ++ h.more; is = h.is ∙ ap (λ (l : List A). l ++ h.more) g.is ∙ append_assoc xs g.more h.more }

  get-front : (xs more : List A) (n : ℕ) (x : A) → slice_get xs n ≡ Some x → slice_get (xs ++ more) n ≡ Some x
  get-front [] more n x h = cc
  get-front (y ∷ xs) more zero x h = h
  get-front (y ∷ xs) more (suc n) x h = get-front xs more n x h

  -- what is in the first is in the second
  pub grows-get : (xs ys : List A) (n : ℕ) (x : A) → Grows xs ys → slice_get xs n ≡ Some x → slice_get ys n ≡ Some x
  grows-get xs ys n x g h = rw g.is (get-front xs g.more n x h)

  -- the item that was put at the end
  pub get-last : (xs : List A) (x : A) → slice_get (xs ++ x ∷ []) (length xs) ≡ Some x
  get-last [] x = refl
  get-last (y ∷ xs) x = get-last xs x

  take-front : (xs more : List A) → take (length xs) (xs ++ more) ≡ xs
  take-front [] more = refl
  take-front (x ∷ xs) more = ap (λ (l : List A). x ∷ l) (take-front xs more)

  pub grows-take : (xs ys : List A) → Grows xs ys → take (length xs) ys ≡ xs
  grows-take xs ys g = rw g.is (take-front xs g.more)
