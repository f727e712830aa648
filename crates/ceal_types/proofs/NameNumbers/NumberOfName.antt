-- The number of a name in a table.
use Rattle.std.proofs.Common.{◌≡◌, ℕ, zero, suc, ◌<◌, ◌+◌, Bool, true, false, ◌||◌, cond, not, nat_lt, Option, Some}
use Rattle.std.proofs.Common.{None, List, [], ◌∷◌, ◌++◌, length, take, position, refl, sym, ap, ◌∙◌, is_some, arith}
use Rattle.std.proofs.Common.{◌≤◌, lt-ltb, le-ltb, ltb-true, ltb-false}
use Rattle.std.proofs.lemmas.Bool.{true≢false}
use Rattle.std.specs.List.{position_or_len, list_any}
use Rattle.std.specs.Map.{keys_of, lookup}
use Rattle.std.specs.Option.{option_map}
use Rattle.std.specs.Str.{bytes_eq}
use Rattle.indexmap.proofs.MapLemmas.{some_index}
use Rattle.ceal_types.specs.Tables.{Name, has}

module _ {X : Type 0} (t : X → Bool) where
  pub hit : (x : X) (xs : List X) → t x ≡ true → position t (x ∷ xs) ≡ Some 0
  hit x xs h =
      ap (λ b. cond (nat_lt (cond (not b) (1 + position_or_len t xs) 0) (length (x ∷ xs))) (Some (cond (not b) (1 + position_or_len t xs) 0)) None) h
      ∙ ap (λ b. cond b (Some 0) None) (lt-ltb 0 (length (x ∷ xs)) (omega arith))

  next : (i n : ℕ) (b : Bool) → nat_lt i n ≡ b → nat_lt (1 + i) (suc n) ≡ b
  next i n true h = let k : i < n = ltb-true i n h in lt-ltb (1 + i) (suc n) (omega arith)
  next i n false h = let k : n ≤ i = ltb-false i n h in le-ltb (1 + i) (suc n) (omega arith)

  later : (b : Bool) (n : ℕ) → cond b (Some (1 + n)) None ≡ option_map suc (cond b (Some n) None)
  later true n = ap (λ (k : ℕ). Some k) (omega arith)
  later false n = refl

  pub miss : (x : X) (xs : List X) → t x ≡ false → position t (x ∷ xs) ≡ option_map suc (position t xs)
  miss x xs h =
      ap (λ b. cond (nat_lt (cond (not b) (1 + position_or_len t xs) 0) (length (x ∷ xs))) (Some (cond (not b) (1 + position_or_len t xs) 0)) None) h
      ∙ ap (λ b. cond b (Some (1 + position_or_len t xs)) None) (next (position_or_len t xs) (length xs) (nat_lt (position_or_len t xs) (length xs)) refl)
      ∙ later (nat_lt (position_or_len t xs) (length xs)) (position_or_len t xs)

module _ {A : Type 0} where
  pub has-number : (es : List (Name × A)) (name : Name) → has es name ≡ is_some (position (bytes_eq name) (keys_of es))
  has-number es name = sym (some_index (bytes_eq name) es)

  -- there is nothing under a name that is not there
  pub absent : (es : List (Name × A)) (name : Name) → has es name ≡ false → lookup (bytes_eq name) es ≡ None
  absent es name = none (lookup (bytes_eq name) es)
    where
      none : (v : Option A) → is_some v ≡ false → v ≡ None
      none None h = refl
      none (Some x) h = absurd (true≢false h)

module _ {X : Type 0} (t : X → Bool) where
  mapped : (r : Option ℕ) → is_some (option_map suc r) ≡ is_some r
  mapped None = refl
  mapped (Some k) = refl

  any-by : (x : X) (xs : List X) (b : Bool) → t x ≡ b → list_any t xs ≡ is_some (position t xs)
      → (b || list_any t xs) ≡ is_some (position t (x ∷ xs))
  any-by x xs true e h = sym (ap is_some (hit t x xs e))
  any-by x xs false e h = h ∙ sym (ap is_some (miss t x xs e) ∙ mapped (position t xs))

  pub any-position : (xs : List X) → list_any t xs ≡ is_some (position t xs)
  any-position [] = refl
  any-position (x ∷ xs) = any-by x xs (t x) refl (any-position xs)

pub has-any : {A : Type 0} (es : List (Name × A)) (name : Name) → has es name ≡ list_any (bytes_eq name) (keys_of es)
has-any es name = has-number es name ∙ sym (any-position (bytes_eq name) (keys_of es))

pub keys-added : {A : Type 0} (es : List (Name × A)) (name : Name) (v : A) → keys_of (es ++ (name, v) ∷ []) ≡ keys_of es ++ name ∷ []
keys-added [] name v = refl
keys-added (e ∷ es) name v = ap (λ (l : List Name). e.0 ∷ l) (keys-added es name v)

pub keys-taken : {A : Type 0} (es : List (Name × A)) (k : ℕ) → keys_of (take k es) ≡ take k (keys_of es)
keys-taken [] zero = refl
keys-taken [] (suc k) = refl
keys-taken (e ∷ es) zero = refl
keys-taken (e ∷ es) (suc k) = ap (λ (l : List Name). e.0 ∷ l) (keys-taken es k)

pub ruleset name_steps = (any-position, has-any, keys-added, keys-taken)
