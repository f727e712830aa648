-- A list of stamps that has room for more.
use Rattle.std.specs.Prelude.{◌≡◌, ◌⊎◌, ℕ, List, [], ◌∷◌, Option, None, Some}
use Rattle.ceal_order.specs.declared.stamp.Stamp.{Stamp}

-- what the queue sees of its list: the stamps, and how many there may be before memory is taken
pub record Roomy : Type 0 where
  pub items : List Stamp
  pub capacity : ℕ

-- all stamps are in one of two lists
abbrev pub InOne : List Stamp → List Stamp → Type 0
InOne sequence plain = (sequence ≡ []) ⊎ (plain ≡ [])

-- stamps after a first one, where there is one
abbrev pub headed : Option Stamp → List Stamp → List Stamp
headed None rest = rest
headed (Some first) rest = first ∷ rest
