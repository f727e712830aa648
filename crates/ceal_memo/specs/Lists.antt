-- Lists of stamps by hash.
use Rattle.std.specs.Prelude.{◌≡◌, ◌<◌, ◌≤◌, ◌==◌, ◌&&◌, ℕ, Bool, true, false, List, [], ◌∷◌, insert, if◌then◌else◌}
use Rattle.ceal_order.specs.Stamps.{is_in, place}
use Rattle.ceal_order.specs.Rising.{count_before}

-- whether a list has stamps
abbrev pub has_stamps : List ℕ → Bool
has_stamps [] = false
has_stamps (s ∷ ss) = true

-- the stamps under a hash: those of the first list under it that has some
abbrev pub stamps_at : List (ℕ × List ℕ) → ℕ → List ℕ
stamps_at [] hash = []
stamps_at (l ∷ ls) hash = if has_stamps l.1 && hash == l.0 then l.1 else stamps_at ls hash

-- with one more stamp, after those that are before it in the order
abbrev pub with_stamp : List ℕ → ℕ → List ℕ → List ℕ
with_stamp order s stamps = insert stamps (count_before order s stamps) s

-- of these stamps the earliest after one of which something is true
pub record IsFirstOf (order stamps : List ℕ) (is : ℕ → Type 0) (after s : ℕ) : Type 0 where
  pub there : is_in s stamps ≡ true
  pub is_so : is s
  pub behind : place after order < place s order
  pub nearest : (t : ℕ) → is_in t stamps ≡ true → is t → place after order < place t order
      → place s order ≤ place t order

-- none of these stamps of which something is true is between two stamps
abbrev pub NoneOf : List ℕ → List ℕ → (ℕ → Type 0) → ℕ → ℕ → Type 0
NoneOf order stamps is after until = (t : ℕ) → is_in t stamps ≡ true → is t → place after order < place t order
    → place until order ≤ place t order
