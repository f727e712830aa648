-- What is found in some levels of old items, by their marks and depths.
use Rattle.std.specs.Prelude.{◌≡◌, ℕ, ◌+◌, ◌≤◌, ◌<◌, ◌⊎◌, true, false, List, length}
use Rattle.ceal_base.specs.declared.forest.Item.{Item}
use Rattle.ceal_adjust.specs.Marks.{marked, depth}
use Rattle.ceal_adjust.specs.declared.mark.Mark.{Mark}

-- no item from the one place up to the other has the mark
abbrev pub Free : List Item → Mark → ℕ → ℕ → Type 0
Free is m from to = (k : ℕ) → from ≤ k → k < to → marked is m k ≡ false

-- the first place with the mark
pub record Next (is : List Item) (m : Mark) (from at : ℕ) : Type 0 where
  pub later : from ≤ at
  pub there : at < length is
  pub marked : marked is m at ≡ true
  pub first : Free is m from at

-- at each place up to the other at least one of the levels is left
pub record Open (is : List Item) (from levels to : ℕ) : Type 0 where
  pub later : from ≤ to
  pub within : to ≤ length is
  pub open_at : (k : ℕ) → from ≤ k → k < to → depth is from < levels + depth is k

-- and there no level is left, or the items are over
pub record Ends (is : List Item) (from levels to : ℕ) : Type 0 where
  pub before : Open is from levels to
  pub last : (to ≡ length is) ⊎ (levels + depth is to ≡ depth is from)

-- the levels have no item with the mark
abbrev pub Absent : List Item → Mark → ℕ → ℕ → Type 0
Absent is m from levels = from ≤ length is → (to : ℕ) × Ends is from levels to × Free is m from to

-- the first item with the mark in the levels is there, with this number of levels left
pub record Found (is : List Item) (m : Mark) (from levels at left : ℕ) : Type 0 where
  pub next : Next is m from at
  pub before : Open is from levels (at + 1)
  pub balance : left + depth is from ≡ levels + depth is at
