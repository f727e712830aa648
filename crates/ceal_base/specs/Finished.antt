-- What a run comes to.
use Rattle.std.specs.Prelude.{ℕ, [], ◌∷◌, ◌++◌}
use Rattle.ceal_base.specs.Block.{Block, Blocks}

-- what a finished run comes to: its memory, its number of steps, and its number of core blocks
pub record Finished : Type 0 where
  pub memory : Blocks
  pub steps : ℕ
  pub blocks : ℕ

-- the memory with one core block more, which has the next number
abbrev pub with_block : Blocks → Block → Blocks
with_block m block = record m { made = m.made ++ block ∷ [] }
