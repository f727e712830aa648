-- Lists by their numbers.
use Rattle.std.proofs.Common.{◌≡◌, ◌≢◌, ◌<◌, ℕ, suc, zero, List, [], ◌∷◌, ◌++◌, length, set, Option, None, Some, refl, sym, ap, ◌∙◌, arith, slice_get}
use Rattle.std.specs.Map.{values_of}
use Rattle.ceal_memo.specs.Numbers.{list_at}

pub none_or_some : {X : Type 0} (o : Option X) (x : X) → o ≡ None → o ≡ Some x → ⊥
none_or_some o x none some = cc

-- ---- at a number

pub value_of : (es : List (ℕ × List ℕ)) (n k : ℕ) (l : List ℕ) → slice_get es n ≡ Some (k, l) → slice_get (values_of es) n ≡ Some l
value_of [] n k l at = cc
value_of (e ∷ es) zero k l at = let same : e ≡ (k, l) = cc in ap (λ (p : ℕ × List ℕ). Some p.1) same
value_of (e ∷ es) (suc n) k l at = value_of es n k l at

pub none_of : (es : List (ℕ × List ℕ)) (n : ℕ) → slice_get es n ≡ None → list_at es n ≡ []
none_of [] n at = refl
none_of (e ∷ es) zero at = cc
none_of (e ∷ es) (suc n) at = none_of es n at

pub same_value : (new old : List (ℕ × List ℕ)) (n : ℕ) → slice_get new n ≡ slice_get old n → list_at new n ≡ list_at old n
same_value new old n same = by (slice_get old n) refl
  where
    by : (o : Option (ℕ × List ℕ)) → slice_get old n ≡ o → list_at new n ≡ list_at old n
    by None p = none_of new n (same ∙ p) ∙ sym (none_of old n p)
    by (Some e) p = rw (value_of new n e.0 e.1 (same ∙ p), value_of old n e.0 e.1 p) refl

-- ---- one is set, or comes last

module _ {X : Type 0} where
  pub push_here : (xs : List X) (x : X) → slice_get (xs ++ x ∷ []) (length xs) ≡ Some x
  push_here [] x = refl
  push_here (y ∷ xs) x = push_here xs x

  pub push_other : (xs : List X) (x : X) (i : ℕ) → i ≢ length xs → slice_get (xs ++ x ∷ []) i ≡ slice_get xs i
  push_other [] x zero other = absurd (other refl)
  push_other [] x (suc i) other = refl
  push_other (y ∷ xs) x zero other = refl
  push_other (y ∷ xs) x (suc i) other = push_other xs x i (λ same. other (ap suc same))

  pub beyond : (xs : List X) → slice_get xs (length xs) ≡ None
  beyond [] = refl
  beyond (y ∷ xs) = beyond xs

  pub set_gets : (xs : List X) (n : ℕ) (x : X) → n < length xs → slice_get (set xs n x) n ≡ Some x
  set_gets [] n x within = absurd (omega arith)
  set_gets (y ∷ xs) zero x within = refl
  set_gets (y ∷ xs) (suc n) x within = set_gets xs n x (omega arith)

  pub set_leaves : (xs : List X) (n : ℕ) (x : X) (i : ℕ) → i ≢ n → slice_get (set xs n x) i ≡ slice_get xs i
  set_leaves [] n x i other = refl
  set_leaves (y ∷ xs) zero x zero other = absurd (other refl)
  set_leaves (y ∷ xs) zero x (suc i) other = refl
  set_leaves (y ∷ xs) (suc n) x zero other = refl
  set_leaves (y ∷ xs) (suc n) x (suc i) other = set_leaves xs n x i (λ same. other (ap suc same))

  pub get_within : (xs : List X) (n : ℕ) (x : X) → slice_get xs n ≡ Some x → n < length xs
  get_within [] n x at = cc
  get_within (y ∷ xs) zero x at = omega arith
  get_within (y ∷ xs) (suc n) x at = let within = get_within xs n x at in omega arith
