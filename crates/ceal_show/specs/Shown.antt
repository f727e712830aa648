-- What a view shows: blocks by their numbers.
use Rattle.std.specs.Prelude.{◌≡◌, ℕ, Option, Some, None, IsSome, List, [], length, slice_get}
use Rattle.ceal_base.specs.Block.{Block}
use Rattle.ceal_base.specs.Shapes.{kinds_of_shape}
use Rattle.ceal_base.specs.declared.kind.Shape.{Shape}
use Rattle.ceal_base.specs.declared.typed.StructInfo.{StructInfo}
use Rattle.ceal_base.specs.declared.word.BlockId.{BlockId}
use Rattle.ceal_base.specs.declared.word.Word.{Word}
use Rattle.ceal_base.specs.declared.word.Word.TheVariants.{Num, Null, Block as BlockWord, At}

-- the block of each number, if there is one; a memory of inputs and core blocks in order is `block_at` of it
abbrev pub Shown : Type 0
Shown = BlockId → Option Block

-- the shape of a block, if it is there
abbrev pub shape_in : Option Block → Option Shape
shape_in None = None
shape_in (Some block) = Some block.shape

-- the shape of the block with this name
abbrev pub shape_at : Shown → BlockId → Option Shape
shape_at memory b = shape_in (memory b)

-- the words of a block; none, if it is not there
abbrev pub words_in : Option Block → List Word
words_in None = []
words_in (Some block) = block.words

-- the words of a block, none where there is no block
abbrev pub words_at : Shown → BlockId → List Word
words_at memory b = words_in (memory b)

-- the word of a block's field, if there is one
abbrev pub word_at : Shown → BlockId → ℕ → Option Word
word_at memory b field = slice_get (words_at memory b) field

-- the block that a word points to, or that has the modifiable to which it points
abbrev pub target : Word → Option BlockId
target (Num n) = None
target Null = None
target (BlockWord b) = Some b
target (At p) = Some p.block

-- the block that a word leads to is there, if the word leads to one
abbrev pub IsThere : Shown → Option BlockId → Type 0
IsThere memory None = Unit {0}
IsThere memory (Some b) = IsSome (memory b)

-- Each block has one word for each field of its shape, and each block that a word names is there.
pub record IsWhole (structs : List StructInfo) (memory : Shown) : Type 0 where
  pub fields : (b : BlockId) (block : Block) → memory b ≡ Some block
      → length block.words ≡ length (kinds_of_shape structs block.shape)
  pub named : (b : BlockId) (field : ℕ) (word : Word) → word_at memory b field ≡ Some word
      → IsThere memory (target word)
