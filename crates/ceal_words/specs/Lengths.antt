-- Lengths of slots, which round up to powers of two.
use Rattle.std.specs.Prelude.{ℕ, ◌-◌, ◌*◌, ◌<◌, ◌≤◌}
use Rattle.std.specs.Int.{w32, leading_zeros}

-- the size class of a length: the exponent of the power of two that it rounds up to, which is the number of
-- binary digits of one less
abbrev pub size_class : ℕ → ℕ
size_class len = 32 - leading_zeros w32 (len - 1)

-- a length rounds up to a power of two
pub record RoundsTo (len size : ℕ) : Type 0 where
  pub fits : len ≤ size
  pub least : size < 2 * len
