-- Memories that are one up to the numbers of their blocks.
use Rattle.std.specs.Prelude.{◌≡◌, ℕ, Some, IsSome, map}
use Rattle.ceal_base.specs.Block.{Block}
use Rattle.ceal_base.specs.declared.word.BlockId.{BlockId}
use Rattle.ceal_base.specs.declared.word.BlockId.TheVariants.{Input, Core}
use Rattle.ceal_base.specs.declared.word.Word.{Word}
use Rattle.ceal_base.specs.declared.word.Word.TheVariants.{Num, Null, Block as BlockWord, At}
use Rattle.ceal_show.specs.Graph.{core_count}
use Rattle.ceal_show.specs.Shown.{Shown}

-- a word with its block renamed
abbrev pub renamed_word : (BlockId → BlockId) → Word → Word
renamed_word rename (Num n) = Num n
renamed_word rename Null = Null
renamed_word rename (BlockWord b) = BlockWord (rename b)
renamed_word rename (At p) = At (record p { block = rename p.block })

-- a block with its words renamed
abbrev pub renamed_block : (BlockId → BlockId) → Block → Block
renamed_block rename block = record block { words = map (renamed_word rename) block.words }

-- Each block of the one memory is in the other, with its words renamed. Inputs keep their numbers, core blocks stay
-- core blocks, and no two blocks become one.
pub record IsRenaming (rename : BlockId → BlockId) (from to : Shown) : Type 0 where
  pub inputs : (n : ℕ) → rename (Input n) ≡ Input n
  pub cores : (n : ℕ) → core_count (rename (Core n)) ≡ 1
  pub blocks : (b : BlockId) (block : Block) → from b ≡ Some block → to (rename b) ≡ Some (renamed_block rename block)
  pub one_to_one : (b c : BlockId) → IsSome (from b) → IsSome (from c) → rename b ≡ rename c → b ≡ c
