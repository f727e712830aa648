-- How a program reaches into memory. Everything is total: what is not there reads as its default and takes no write.
use Rattle.std.specs.Prelude.{ℕ, Bool, false, Option, Some, None, slice_get, unwrap_or, if◌then◌else◌, ◌==◌, not}
use Rattle.std.specs.Prelude.{is_some}
use Rattle.ceal_base.specs.Block.{Block, Blocks, block_at, written_at}
use Rattle.ceal_base.specs.Operators.{is_zero, number_of}
use Rattle.ceal_base.specs.declared.kind.Shape.{Shape}
use Rattle.ceal_base.specs.declared.kind.Shape.TheVariants.{Struct, ModInt as OneInt, ModPtr as OnePtr}
use Rattle.ceal_base.specs.declared.word.Word.{Word}
use Rattle.ceal_base.specs.declared.word.Word.TheVariants.{Num, Null, Block as BlockWord, At}

-- the shape is that of the struct of this number
abbrev pub is_struct : ℕ → Shape → Bool
is_struct s (Struct t) = s == t
is_struct s OneInt = false
is_struct s (OnePtr t) = false

-- the block, where it is one of the struct
abbrev pub of_struct : ℕ → Option Block → Option Block
of_struct s None = None
of_struct s (Some block) = if is_struct s block.shape then Some block else None

-- the block of the struct that the word points to
abbrev pub pointed : Blocks → ℕ → Word → Option Block
pointed m s (BlockWord b) = of_struct s (block_at m b)
pointed m s (Num n) = None
pointed m s Null = None
pointed m s (At p) = None

-- the word of a block's field, or the default given
abbrev pub word_in : Option Block → ℕ → Word → Word
word_in None field default = default
word_in (Some block) field default = unwrap_or (slice_get block.words field) default

-- `E->f`, where `E` gives the word: the field of the block of the struct that it points to, else the default
abbrev pub field_of : Blocks → ℕ → Word → ℕ → Word → Word
field_of m s word field default = word_in (pointed m s word) field default

-- the place of a field of the block that the word points to
abbrev pub place_in : Word → ℕ → Word
place_in (BlockWord b) field = At (record { block = b; field = field })
place_in (Num n) field = Null
place_in Null field = Null
place_in (At p) field = Null

-- `&E->f`, where `E` gives the word: null where it points to no block of the struct
abbrev pub address_of : Blocks → ℕ → Word → ℕ → Word
address_of m s word field = if is_some (pointed m s word) then place_in word field else Null

-- `read`: the content of the modifiable, and through null the default given
abbrev pub content_of : Blocks → Word → Word → Word
content_of m (At p) default = word_in (block_at m p.block) p.field default
content_of m (Num n) default = default
content_of m Null default = default
content_of m (BlockWord b) default = default

-- `write`: the memory with another content of the modifiable; through null, the same memory
abbrev pub memory_after_write : Blocks → Word → Word → Blocks
memory_after_write m (At p) word = written_at m p.block p.field word
memory_after_write m (Num n) word = m
memory_after_write m Null word = m
memory_after_write m (BlockWord b) word = m

-- a condition: a number is true where it is not 0, and no other word is
abbrev pub holds : Word → Bool
holds word = not (is_zero (number_of word))
