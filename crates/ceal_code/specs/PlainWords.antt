-- What a reader of plain words gives.
use Rattle.std.specs.Prelude.{ℕ, Option, Some, None, slice_get}
use Rattle.ceal_base.specs.Block.{Block}
use Rattle.ceal_base.specs.declared.kind.Shape.{Shape}
use Rattle.ceal_base.specs.declared.word.Word.{Word}

-- the shape of a block, where there is one
abbrev pub block_shape : Option Block → Option Shape
block_shape None = None
block_shape (Some block) = Some block.shape

-- the word of a block's field, where there is that block and that field
abbrev pub block_word : Option Block → ℕ → Option Word
block_word None field = None
block_word (Some block) field = slice_get block.words field
