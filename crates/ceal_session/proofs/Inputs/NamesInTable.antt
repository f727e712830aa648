-- Names in a table, one after another.
use Rattle.std.proofs.Common.{◌≡◌, ℕ, ◌+◌, ◌||◌, Bool, true, false, Some, List, [], ◌∷◌, ◌++◌, take, slice_get, zero, suc, refl, sym, ap, ◌∙◌, subst, append_assoc, arith}
use Rattle.std.proofs.lemmas.Cmp.{nat_list_eq_equiv}
use Rattle.std.proofs.lemmas.Map.Keys.{IsDistinct-push}
use Rattle.std.specs.List.{AllByRecursion, IsDistinct, list_any}
use Rattle.std.specs.Prelude.{bytes_eq}
use Rattle.ceal_code.proofs.Words.SameIsEqual.{none-some, some-same}
use Rattle.ceal_session.specs.InputNames.{AreDistinct}

at-place : {X : Type 0} (P : X → Type 0) (xs : List X) (y : X) (zs : List X) → AllByRecursion P (xs ++ y ∷ zs) → P y
at-place P [] y zs h = h.0
at-place P (x ∷ xs) y zs h = at-place P xs y zs h.1

-- a name that was there before occurs twice
twice : (xs : List (List ℕ)) (y : List ℕ) (zs : List (List ℕ)) → list_any (bytes_eq y) xs ≡ true → AreDistinct (xs ++ y ∷ zs) → ⊥
unfolding IsDistinct
twice [] y zs h d = absurd (grind (arith, h))
twice (x ∷ xs) y zs h d = go (bytes_eq y x) refl (λ i. twice xs y zs i d.1)
  where
    go : (b : Bool) → bytes_eq y x ≡ b → (list_any (bytes_eq y) xs ≡ true → ⊥) → ⊥
    go true e f =
        let other : bytes_eq x y ≡ false = at-place (λ z. bytes_eq x z ≡ false) xs y zs d.0 in
        let same : bytes_eq x y ≡ true = nat_list_eq_equiv.symm x y ∙ e in
        absurd (grind (arith, other, same))
    go false e f = f (subst (λ b. (b || list_any (bytes_eq y) xs) ≡ true) e h)

pub found-twice : (table : List (List ℕ)) (name : List ℕ) (names more all : List (List ℕ)) → names ≡ name ∷ more → table ++ names ≡ all → list_any (bytes_eq name) table ≡ true → AreDistinct all → ⊥
found-twice table name names more all e w h d =
    twice table name more h (subst AreDistinct (sym (ap (λ t. table ++ t) (sym e) ∙ w)) d)

pub one-more : (table next : List (List ℕ)) (name : List ℕ) (names more all : List (List ℕ)) → names ≡ name ∷ more → table ++ names ≡ all → next ≡ table ++ name ∷ [] → next ++ more ≡ all
one-more table next name names more all e w n = ap (λ t. t ++ more) n ∙ (append_assoc table (name ∷ []) more ∙ (ap (λ t. table ++ t) (sym e) ∙ w))

pub once-more : (table next : List (List ℕ)) (name : List ℕ) → AreDistinct table → list_any (bytes_eq name) table ≡ false → next ≡ table ++ name ∷ [] → AreDistinct next
once-more table next name d h n = subst AreDistinct (sym n) (IsDistinct-push nat_list_eq_equiv table name d h)

-- the first names of a list
module _ {X : Type 0} where
  take-suc : (xs : List X) (n : ℕ) (x : X) → slice_get xs n ≡ Some x → take (suc n) xs ≡ take n xs ++ x ∷ []
  take-suc [] n x e = none-some x e
  take-suc (y ∷ ys) zero x e = ap (λ z. z ∷ []) (some-same y x e)
  take-suc (y ∷ ys) (suc n) x e = ap (λ t. y ∷ t) (take-suc ys n x e)

  pub take-next : (xs : List X) (n : ℕ) (x : X) → slice_get xs n ≡ Some x → take (n + 1) xs ≡ take n xs ++ x ∷ []
  take-next xs n x e =
      let one : n + 1 ≡ suc n = omega arith in
      ap (λ k. take k xs) one ∙ take-suc xs n x e
