-- A stack, and its room.
use Rattle.std.specs.Prelude.{ℕ, List}

-- what is in a stack, the last one on top, and how many it holds without taking memory
pub record Pile : Type 0 where
  pub items : List ℕ
  pub room : ℕ
