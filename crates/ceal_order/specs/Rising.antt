-- Stamps that rise along an order.
use Rattle.std.specs.Prelude.{◌≡◌, ◌<◌, ◌≤◌, ℕ, suc, List, [], ◌∷◌, true, nat_lt, length, slice_index}
use Rattle.std.specs.Prelude.{Option, Some, None, if◌then◌else◌}
use Rattle.ceal_order.specs.declared.stamp.Stamp.{Stamp}
use Rattle.ceal_order.specs.Stamps.{is_in, place}

-- the numbers of stamps
abbrev pub numbers : List Stamp → List ℕ
numbers [] = []
numbers (s ∷ ss) = s.0 ∷ numbers ss

-- a stamp is before each of these
abbrev pub IsBeforeAll : List ℕ → ℕ → List ℕ → Type 0
IsBeforeAll order s [] = Unit {0}
IsBeforeAll order s (t ∷ ts) = (place s order < place t order) × IsBeforeAll order s ts

-- each of these is a stamp of the order, and is before those that follow it
abbrev pub IsRising : List ℕ → List ℕ → Type 0
IsRising order [] = Unit {0}
IsRising order (s ∷ ss) = (is_in s order ≡ true) × IsBeforeAll order s ss × IsRising order ss

-- the number of these before a stamp
abbrev pub count_before : List ℕ → ℕ → List ℕ → ℕ
count_before order s [] = 0
count_before order s (t ∷ ts) =
    if nat_lt (place t order) (place s order) then suc (count_before order s ts) else count_before order s ts

-- the last of a stamp and these after it
abbrev pub last_from : ℕ → List ℕ → ℕ
last_from s [] = s
last_from s (t ∷ ts) = last_from t ts

-- the last of these, None where there are none
abbrev pub last_stamp : List ℕ → Option ℕ
last_stamp [] = None
last_stamp (s ∷ ss) = Some (last_from s ss)

-- of these stamps the nearest one after a stamp
pub record IsFirstAfter (order stamps : List ℕ) (s next : ℕ) : Type 0 where
  pub there : is_in next stamps ≡ true
  pub behind : place s order < place next order
  pub nearest : (t : ℕ) → is_in t stamps ≡ true → place s order < place t order → place next order ≤ place t order

-- none of these is after a stamp
abbrev pub NoneAfter : List ℕ → List ℕ → ℕ → Type 0
NoneAfter order stamps s = (t : ℕ) → is_in t stamps ≡ true → place t order ≤ place s order

-- the first n of these are not after a stamp, and the next one is
pub record IsParted (order stamps : List ℕ) (s n : ℕ) : Type 0 where
  pub within : n ≤ length stamps
  pub front : (i : ℕ) → i < n → place (slice_index stamps i) order ≤ place s order
  pub behind : n < length stamps → place s order < place (slice_index stamps n) order

-- the new order has these stamps too, and in the order that they have in the old one
pub record KeepsOrder (stamps old new : List ℕ) : Type 0 where
  pub there : (s : ℕ) → is_in s stamps ≡ true → is_in s new ≡ true
  pub order : (a b : ℕ) → is_in a stamps ≡ true → is_in b stamps ≡ true → place a old < place b old
      → place a new < place b new
