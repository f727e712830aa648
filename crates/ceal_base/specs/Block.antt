-- What a contract sees of a block, and of a memory.
use Rattle.std.specs.Prelude.{ℕ, Option, Some, None, List, [], slice_get, slice_set}
use Rattle.ceal_base.specs.declared.word.BlockId.{BlockId}
use Rattle.ceal_base.specs.declared.word.BlockId.TheVariants.{Input, Core}
use Rattle.ceal_base.specs.declared.kind.Shape.{Shape}
use Rattle.ceal_base.specs.declared.word.Word.{Word}

-- a block's shape, and one word per field
pub record Block : Type 0 where
  pub shape : Shape
  pub words : List Word

-- a memory: the input blocks, and the core blocks in the order of their allocation
pub record Blocks : Type 0 where
  pub inputs : List Block
  pub made : List Block

-- the inputs as a memory without core blocks
abbrev pub alone : List Block → Blocks
alone inputs = record { inputs = inputs; made = [] }

-- the block of this number
abbrev pub block_at : Blocks → BlockId → Option Block
block_at m (Input n) = slice_get m.inputs n
block_at m (Core n) = slice_get m.made n

-- the blocks with another word at a field of one of them; where there is no such field they are the same
abbrev pub with_field : List Block → Option Block → ℕ → ℕ → Word → List Block
with_field blocks None at field word = blocks
with_field blocks (Some block) at field word =
    slice_set blocks at (record block { words = slice_set block.words field word })

-- blocks with another word at a field of one
abbrev pub with_word : List Block → ℕ → ℕ → Word → List Block
with_word blocks at field word = with_field blocks (slice_get blocks at) at field word

-- a memory with another word at a field of one block
abbrev pub written_at : Blocks → BlockId → ℕ → Word → Blocks
written_at m (Input n) field word = record m { inputs = with_word m.inputs n field word }
written_at m (Core n) field word = record m { made = with_word m.made n field word }
