-- The first of each name gives its number.
use Rattle.std.proofs.Common.{◌≡◌, ℕ, zero, suc, ◌+◌, ◌<◌, ◌≤◌, get_or, Bool, true, false, Option, Some, None, List, [], ◌∷◌, ◌++◌, length, take, position, refl, ap, ◌∙◌, arith, cond}
use Rattle.std.proofs.lemmas.List.{take_more}
use Rattle.std.specs.Cmp.Lexicographic.{nat_list_eq_equiv}
use Rattle.std.specs.Map.{lookup}
use Rattle.std.specs.Option.{option_map}
use Rattle.std.specs.Str.{bytes_eq}
use Rattle.ceal_types.proofs.NameNumbers.NumberOfName.{hit, miss}
use Rattle.ceal_types.specs.Numbers.{or_second, number_if}
use Rattle.ceal_types.specs.Tables.{Name}

-- ---- a table with one name more
pub with-new : (es : List (Name × ℕ)) (name n : Name) (k : ℕ)
    → lookup (bytes_eq n) (es ++ (name, k) ∷ []) ≡ or_second (lookup (bytes_eq n) es) (number_if (bytes_eq name n) k)
with-new [] name n k = rw (nat_list_eq_equiv.symm name n) (by (bytes_eq n name))
  where
    by : (b : Bool) → cond b (Some k) None ≡ number_if b k
    by true = refl
    by false = refl
with-new (e ∷ es) name n k = by (bytes_eq n e.0) (lookup (bytes_eq n) (es ++ (name, k) ∷ [])) (lookup (bytes_eq n) es) (number_if (bytes_eq name n) k) (with-new es name n k)
  where
    by : (b : Bool) (x y z : Option ℕ) → x ≡ or_second y z → cond b (Some e.1) x ≡ or_second (cond b (Some e.1) y) z
    by true x y z h = refl
    by false x y z h = h

-- ---- the first place of a list with one item more
module _ {X : Type 0} (p : X → Bool) where
  pub first-more : (xs : List X) (x : X) → position p (xs ++ x ∷ []) ≡ or_second (position p xs) (number_if (p x) (length xs))
  first-more [] x = one (p x) refl
    where
      one : (b : Bool) → p x ≡ b → position p (x ∷ []) ≡ number_if b 0
      one true e = hit p x [] e
      one false e = miss p x [] e
  first-more (y ∷ ys) x = by (p y) refl (first-more ys x)
    where
      deeper : (o : Option ℕ) (b : Bool) → option_map suc (or_second o (number_if b (length ys))) ≡ or_second (option_map suc o) (number_if b (suc (length ys)))
      deeper (Some k) b = refl
      deeper None true = refl
      deeper None false = refl

      by : (b : Bool) → p y ≡ b → position p (ys ++ x ∷ []) ≡ or_second (position p ys) (number_if (p x) (length ys))
          → position p (y ∷ ys ++ x ∷ []) ≡ or_second (position p (y ∷ ys)) (number_if (p x) (suc (length ys)))
      by true e h = hit p y (ys ++ x ∷ []) e ∙ rw (hit p y ys e) refl
      by false e h = miss p y (ys ++ x ∷ []) e ∙ ap (option_map suc) h ∙ rw (miss p y ys e) (deeper (position p ys) (p x))

  taken-length : (xs : List X) (i : ℕ) → i ≤ length xs → length (take i xs) ≡ i
  taken-length [] zero h = refl
  taken-length [] (suc i) h = omega arith
  taken-length (x ∷ xs) zero h = refl
  taken-length (x ∷ xs) (suc i) h = ap suc (taken-length xs i (omega arith))

  pub first-taken : (xs : List X) (i : ℕ) (d : X) → i < length xs
      → position p (take (i + 1) xs) ≡ or_second (position p (take i xs)) (number_if (p (get_or xs i d)) i)
  first-taken xs i d within =
      let one : length (take i xs) ≡ i = taken-length xs i (omega arith) in
      rw (take_more xs i d within)
      (first-more (take i xs) (get_or xs i d) ∙ ap (λ (k : ℕ). or_second (position p (take i xs)) (number_if (p (get_or xs i d)) k)) one)
