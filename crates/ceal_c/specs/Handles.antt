-- Handles as numbers.
use Rattle.std.specs.Prelude.{◌≡◌, ℕ, ◌/◌, ◌%◌}
use Rattle.ceal_base.specs.declared.word.BlockId.TheVariants.{Input}
use Rattle.ceal_session.specs.declared.handle.Handle.{Handle}

-- the handle that a number stands for: the number of an input times 2^32, and that of a field
abbrev pub handle_at : ℕ → Handle
handle_at n = record { place = record { block = Input (n / 4294967296); field = n % 4294967296 } }

-- the handle is that of a field of an input
pub record IsOfInput (h : Handle) : Type 0 where
  pub number : ℕ
  pub is : h.place.block ≡ Input number
