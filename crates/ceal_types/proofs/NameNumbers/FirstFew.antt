-- Look-ups in a table whose first names are apart from those after them.
use Rattle.std.proofs.Common.{◌≡◌, ℕ, zero, suc, ◌+◌, Bool, true, false, cond, Option, Some, None, List, [], ◌∷◌, ◌++◌}
use Rattle.std.proofs.Common.{◌-◌, length, position, slice_get, map, take, refl, sym, ap, ◌∙◌, arith, subst, is_some}
use Rattle.std.specs.Prelude.{IfSome}
use Rattle.std.proofs.lemmas.Bool.{true≢false}
use Rattle.std.proofs.lemmas.Option.{slice_get-map}
use Rattle.std.specs.Map.{keys_of, lookup}
use Rattle.std.specs.Option.{option_map}
use Rattle.indexmap.proofs.MapLemmas.{some_index, value_index}
use Rattle.ceal_types.specs.Tables.{Name, second, both_some}
use Rattle.ceal_types.proofs.NameNumbers.NumberOfName.{hit, miss}

-- the first number, and where there is none the second
abbrev pub either_number : Option ℕ → Option ℕ → Option ℕ
either_number None n = n
either_number (Some m) n = Some m

-- a number among those that come after `before` others
abbrev pub moved_by : ℕ → Option ℕ → Option ℕ
moved_by before None = None
moved_by before (Some n) = Some (before + n)

unmoved : (n : Option ℕ) → n ≡ moved_by 0 n
unmoved None = refl
unmoved (Some n) = ap (λ (k : ℕ). Some k) (omega arith)

further : (before : ℕ) (m n : Option ℕ) → option_map suc (either_number m (moved_by before n)) ≡ either_number (option_map suc m) (moved_by (suc before) n)
further before None None = refl
further before None (Some n) = ap (λ (k : ℕ). Some k) (omega arith)
further before (Some m) n = refl

module _ {A : Type 0} (t : Name → Bool) where
  one-place : (x : Name × A) (xs : List (Name × A)) (b : Bool) → t x.0 ≡ b → position (λ e. t e.0) xs ≡ position t (keys_of xs)
      → position (λ e. t e.0) (x ∷ xs) ≡ position t (keys_of (x ∷ xs))
  one-place x xs true h more = hit (λ e. t e.0) x xs h ∙ sym (hit t x.0 (keys_of xs) h)
  one-place x xs false h more = miss (λ e. t e.0) x xs h ∙ ap (option_map suc) more ∙ sym (miss t x.0 (keys_of xs) h)

  -- the place of an entry is that of its name
  pub place-of-name : (xs : List (Name × A)) → position (λ e. t e.0) xs ≡ position t (keys_of xs)
  place-of-name [] = refl
  place-of-name (x ∷ xs) = one-place x xs (t x.0) refl (place-of-name xs)

  one-part : (x : Name × A) (xs ys : List (Name × A)) (b : Bool) → t x.0 ≡ b
      → position t (keys_of (xs ++ ys)) ≡ either_number (position t (keys_of xs)) (moved_by (length xs) (position t (keys_of ys)))
      → position t (keys_of (x ∷ (xs ++ ys))) ≡ either_number (position t (keys_of (x ∷ xs))) (moved_by (length (x ∷ xs)) (position t (keys_of ys)))
  one-part x xs ys true h more =
      hit t x.0 (keys_of (xs ++ ys)) h ∙ sym (ap (λ m. either_number m (moved_by (length (x ∷ xs)) (position t (keys_of ys)))) (hit t x.0 (keys_of xs) h))
  one-part x xs ys false h more =
      miss t x.0 (keys_of (xs ++ ys)) h ∙ ap (option_map suc) more ∙ further (length xs) (position t (keys_of xs)) (position t (keys_of ys))
      ∙ sym (ap (λ m. either_number m (moved_by (length (x ∷ xs)) (position t (keys_of ys)))) (miss t x.0 (keys_of xs) h))

  -- the place of a name is that among the first, or after them
  pub place-of-parts : (xs ys : List (Name × A))
      → position t (keys_of (xs ++ ys)) ≡ either_number (position t (keys_of xs)) (moved_by (length xs) (position t (keys_of ys)))
  place-of-parts [] ys = unmoved (position t (keys_of ys))
  place-of-parts (x ∷ xs) ys = one-part x xs ys (t x.0) refl (place-of-parts xs ys)

  -- what is found is at its place
  pub value-found : (es : List (Name × A)) (i : ℕ) (e : Name × A) → position t (keys_of es) ≡ Some i → slice_get es i ≡ Some e → lookup t es ≡ Some e.1
  value-found es i e p q =
      let v : slice_get (map second es) i ≡ lookup t es = subst (λ o. IfSome o (λ k. slice_get (map second es) k ≡ lookup t es)) p (value_index t es) in
      sym v ∙ slice_get-map second es i ∙ ap (option_map second) q

  -- and nothing is found without a place
  pub value-missing : (es : List (Name × A)) → position t (keys_of es) ≡ None → lookup t es ≡ None
  value-missing es p = none (lookup t es) (sym (some_index t es) ∙ ap is_some p)
    where
      none : (v : Option A) → is_some v ≡ false → v ≡ None
      none None h = refl
      none (Some x) h = absurd (true≢false h)

  parts : (xs ys : List (Name × A)) (m n : Option ℕ) → position (λ e. t e.0) xs ≡ m → position t (keys_of ys) ≡ n
      → position t (keys_of (xs ++ ys)) ≡ either_number m (moved_by (length xs) n)
  parts xs ys m n p q =
      place-of-parts xs ys ∙ ap (λ k. either_number k (moved_by (length xs) (position t (keys_of ys)))) (sym (place-of-name xs) ∙ p)
      ∙ ap (λ k. either_number m (moved_by (length xs) k)) q

  -- a name among the first
  pub among-first : (xs ys : List (Name × A)) (i : ℕ) → position (λ e. t e.0) xs ≡ Some i → Some i ≡ position t (keys_of (xs ++ ys))
  among-first xs ys i p = sym (parts xs ys (Some i) (position t (keys_of ys)) p refl)

  -- a name after them
  pub after-first : (xs ys : List (Name × A)) (i : ℕ) → position (λ e. t e.0) xs ≡ None → position t (keys_of ys) ≡ Some i
      → Some (length xs + i) ≡ position t (keys_of (xs ++ ys))
  after-first xs ys i p q = sym (parts xs ys None (Some i) p q)

  -- a name that is in neither part
  pub nowhere : (xs ys : List (Name × A)) → position (λ e. t e.0) xs ≡ None → position t (keys_of ys) ≡ None → None ≡ position t (keys_of (xs ++ ys))
  nowhere xs ys p q = sym (parts xs ys None None p q)

  -- the number and the value at it
  pub found : (es : List (Name × A)) (i : ℕ) (e : Name × A) → position t (keys_of es) ≡ Some i → slice_get es i ≡ Some e
      → Some (i, e.1) ≡ both_some (position t (keys_of es)) (lookup t es)
  found es i e p q = sym (ap (λ n. both_some n (lookup t es)) p ∙ ap (both_some (Some i)) (value-found es i e p q))

  pub not-found : (es : List (Name × A)) → position t (keys_of es) ≡ None → None ≡ both_some (position t (keys_of es)) (lookup t es)
  not-found es p = sym (ap (λ n. both_some n (lookup t es)) p ∙ ap (both_some None) (value-missing es p))

  one-missing : (x : Name × A) (xs ys : List (Name × A)) (b : Bool) → t x.0 ≡ b → lookup t (x ∷ (xs ++ ys)) ≡ None
      → (lookup t (xs ++ ys) ≡ None → lookup t ys ≡ None) → lookup t ys ≡ None
  one-missing x xs ys true h p more = absurd (true≢false (ap is_some (sym (ap (λ b. cond b (Some x.1) (lookup t (xs ++ ys))) h) ∙ p)))
  one-missing x xs ys false h p more = more (sym (ap (λ b. cond b (Some x.1) (lookup t (xs ++ ys))) h) ∙ p)

  -- what is in neither part is not in the second
  pub missing-after : (xs ys : List (Name × A)) → lookup t (xs ++ ys) ≡ None → lookup t ys ≡ None
  missing-after [] ys p = p
  missing-after (x ∷ xs) ys p = one-missing x xs ys (t x.0) refl p (missing-after xs ys)

-- the first of two lists' items
pub first-of-both : {X : Type 0} (n : ℕ) (xs ys : List X) → take n (xs ++ ys) ≡ take n xs ++ take (n - length xs) ys
first-of-both zero [] ys = refl
first-of-both {X} (suc n) [] ys = let e : suc n - length {A = X} [] ≡ suc n = omega arith in rw e refl
first-of-both zero (x ∷ xs) ys = let e : 0 - length (x ∷ xs) ≡ 0 = omega arith in rw e refl
first-of-both (suc n) (x ∷ xs) ys = let e : suc n - length (x ∷ xs) ≡ n - length xs = omega arith in rw (e, first-of-both n xs ys) refl
