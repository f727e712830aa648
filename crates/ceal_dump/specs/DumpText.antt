-- The dump text of a record. Every line ends with a line feed, and there is one space between the words of a line.
use Rattle.std.specs.Prelude.{◌≡◌, pos, negsuc, ℕ, zero, suc, ◌<◌, ◌^◌, Bool, true, false, ◌&&◌, List, [], ◌∷◌, ◌++◌}
use Rattle.std.specs.Prelude.{length, codes}
use Rattle.std.specs.Fmt.{decimal, signed_decimal}
use Rattle.ceal_base.specs.Block.{Block}
use Rattle.ceal_base.specs.declared.forest.Item.{Item}
use Rattle.ceal_base.specs.declared.forest.Item.TheVariants.{Step, Alloc, Write, Read, End}
use Rattle.ceal_base.specs.declared.forest.Key.{Key}
use Rattle.ceal_base.specs.declared.forest.Key.TheVariants.{Init, ModInt as IntKey, ModPtr as PtrKey}
use Rattle.ceal_base.specs.declared.kind.Shape.{Shape}
use Rattle.ceal_base.specs.declared.kind.Shape.TheVariants.{Struct, ModInt, ModPtr}
use Rattle.ceal_base.specs.declared.recorded.Record.{Record}
use Rattle.ceal_base.specs.declared.word.BlockId.{BlockId}
use Rattle.ceal_base.specs.declared.word.BlockId.TheVariants.{Input, Core}
use Rattle.ceal_base.specs.declared.word.Place.{Place}
use Rattle.ceal_base.specs.declared.word.Word.{Word}
use Rattle.ceal_base.specs.declared.word.Word.TheVariants.{Num, Null, Block as BlockWord, At}

-- `i0` is the first input block, `c0` the core block of number 0
abbrev pub block_text : BlockId → List ℕ
block_text (Input n) = codes "i" ++ decimal n
block_text (Core n) = codes "c" ++ decimal n

-- a place: its block, a dot and its field
abbrev pub place_text : Place → List ℕ
place_text p = block_text p.block ++ codes "." ++ decimal p.field

-- a word
abbrev pub word_text : Word → List ℕ
word_text (Num n) = signed_decimal n
word_text Null = codes "null"
word_text (BlockWord b) = block_text b
word_text (At p) = place_text p

-- words with a space before each
unfoldable pub words_text : List Word → List ℕ
words_text [] = []
words_text (word ∷ words) = codes " " ++ word_text word ++ words_text words

-- a shape: `s` with the number of a struct, `i`, or `p` with the number of a struct
abbrev pub shape_text : Shape → List ℕ
shape_text (Struct n) = codes "s" ++ decimal n
shape_text ModInt = codes "i"
shape_text (ModPtr n) = codes "p" ++ decimal n

-- a block: its shape and its words
abbrev pub block_line : Block → List ℕ
block_line b = shape_text b.shape ++ words_text b.words ++ codes "\n"

-- the lines of blocks
unfoldable pub block_lines : List Block → List ℕ
block_lines [] = []
block_lines (b ∷ bs) = block_line b ++ block_lines bs

-- a key of an allocation
abbrev pub key_text : Key → List ℕ
key_text (Init f args) = codes "f" ++ decimal f ++ words_text args
key_text IntKey = codes "i"
key_text (PtrKey n) = codes "p" ++ decimal n

-- an item; a read has its unit, the variable that it sets and its arguments
abbrev pub item_line : Item → List ℕ
item_line Step = codes "s\n"
item_line (Alloc b key) = codes "a " ++ block_text b ++ codes " " ++ key_text key ++ codes "\n"
item_line (Write p value) = codes "w " ++ place_text p ++ codes " " ++ word_text value ++ codes "\n"
item_line (Read p value u v args) =
    codes "r " ++ place_text p ++ codes " " ++ word_text value ++ codes " u" ++ decimal u.0 ++ codes " v"
    ++ decimal v ++ words_text args ++ codes "\n"
item_line End = codes "e\n"

-- the lines of items
unfoldable pub item_lines : List Item → List ℕ
item_lines [] = []
item_lines (i ∷ is) = item_line i ++ item_lines is

-- the input blocks, after how many they are
abbrev pub inputs_text : List Block → List ℕ
inputs_text bs = codes "ceal-trace 1\ninputs " ++ decimal (length bs) ++ codes "\n" ++ block_lines bs

-- the call
abbrev pub call_text : ℕ → List Word → List ℕ
call_text f args = codes "run " ++ decimal f ++ words_text args ++ codes "\n"

-- the items, after how many they are
abbrev pub trace_text : List Item → List ℕ
trace_text is = codes "trace " ++ decimal (length is) ++ codes "\n" ++ item_lines is

-- the blocks of the memory, after how many inputs and core blocks they are
abbrev pub memory_text : List Block → List Block → List ℕ
memory_text inputs made =
    codes "memory " ++ decimal (length inputs) ++ codes " " ++ decimal (length made) ++ codes "\n"
    ++ block_lines inputs ++ block_lines made

-- the whole text: inputs, call, trace and memory
unfoldable pub dump_text : Record → List ℕ
dump_text r =
    inputs_text r.inputs ++ call_text r.function r.args ++ trace_text r.forest
    ++ memory_text r.memory.inputs r.memory.made ++ codes "end\n"

-- each `End` closes the last of the open reads, and none is open at the end
unfoldable pub closed : ℕ → List Item → Bool
closed zero [] = true
closed (suc n) [] = false
closed n (Step ∷ is) = closed n is
closed n (Alloc b key ∷ is) = closed n is
closed n (Write p value ∷ is) = closed n is
closed n (Read p value u v args ∷ is) = closed (suc n) is
closed zero (End ∷ is) = false
closed (suc n) (End ∷ is) = closed n is

-- whether the block is one that the core made
abbrev pub is_core : BlockId → Bool
is_core (Core n) = true
is_core (Input i) = false

-- each allocation is of a core block
unfoldable pub all_core : List Item → Bool
all_core [] = true
all_core (Alloc b key ∷ is) = is_core b && all_core is
all_core (Step ∷ is) = all_core is
all_core (Write p value ∷ is) = all_core is
all_core (Read p value u v args ∷ is) = all_core is
all_core (End ∷ is) = all_core is

-- The record has a dump: its counts have room in 32 bits, each allocation has a core block, and each read its end.
pub record HasDump (r : Record) : Type 0 where
  pub inputs : length r.inputs < 2 ^ 32
  pub items : length r.forest < 2 ^ 32
  pub memory : length r.memory.inputs < 2 ^ 32
  pub made : length r.memory.made < 2 ^ 32
  pub core : all_core r.forest ≡ true
  pub ends : closed 0 r.forest ≡ true

-- only its counts
pub record HasRoom (r : Record) : Type 0 where
  pub inputs : length r.inputs < 2 ^ 32
  pub items : length r.forest < 2 ^ 32
  pub memory : length r.memory.inputs < 2 ^ 32
  pub made : length r.memory.made < 2 ^ 32

-- Numbers of blocks, fields, functions, structs, units and variables have room in 32 bits, and the others in
-- the range of an `int`. They have in every record that a program holds.
abbrev pub Small : ℕ → Type 0
Small n = n < 2 ^ 32

-- the number of the block is in range
abbrev pub SmallBlock : BlockId → Type 0
SmallBlock (Input n) = Small n
SmallBlock (Core n) = Small n

-- the numbers of the place are in range
abbrev pub SmallPlace : Place → Type 0
SmallPlace p = SmallBlock p.block × Small p.field

-- the numbers of the word are in range
abbrev pub SmallWord : Word → Type 0
SmallWord (Num (pos n)) = n < 2 ^ 63
SmallWord (Num (negsuc n)) = n < 2 ^ 63
SmallWord Null = Unit {0}
SmallWord (BlockWord b) = SmallBlock b
SmallWord (At p) = SmallPlace p

-- those of each word are
abbrev pub SmallWords : List Word → Type 0
SmallWords [] = Unit {0}
SmallWords (word ∷ words) = SmallWord word × SmallWords words

-- the number of the shape is in range
abbrev pub SmallShape : Shape → Type 0
SmallShape (Struct n) = Small n
SmallShape ModInt = Unit {0}
SmallShape (ModPtr n) = Small n

-- the numbers of each block are in range
abbrev pub SmallBlocks : List Block → Type 0
SmallBlocks [] = Unit {0}
SmallBlocks (b ∷ bs) = (SmallShape b.shape × SmallWords b.words) × SmallBlocks bs

-- the numbers of the key are in range
abbrev pub SmallKey : Key → Type 0
SmallKey (Init f args) = Small f × SmallWords args
SmallKey IntKey = Unit {0}
SmallKey (PtrKey n) = Small n

-- the numbers of the item are in range
abbrev pub SmallItem : Item → Type 0
SmallItem Step = Unit {0}
SmallItem (Alloc b key) = SmallBlock b × SmallKey key
SmallItem (Write p value) = SmallPlace p × SmallWord value
SmallItem (Read p value u v args) = SmallPlace p × SmallWord value × Small u.0 × Small v × SmallWords args
SmallItem End = Unit {0}

-- those of each item are
abbrev pub SmallItems : List Item → Type 0
SmallItems [] = Unit {0}
SmallItems (i ∷ is) = SmallItem i × SmallItems is

-- All numbers of the record are in range.
pub record InRange (r : Record) : Type 0 where
  pub inputs : SmallBlocks r.inputs
  pub function : Small r.function
  pub args : SmallWords r.args
  pub items : SmallItems r.forest
  pub memory : SmallBlocks r.memory.inputs
  pub made : SmallBlocks r.memory.made

-- The bytes are the dump of the record.
pub record IsDump (bytes : List ℕ) (r : Record) : Type 0 where
  pub has : HasDump r
  pub range : InRange r
  pub text : bytes ≡ dump_text r
