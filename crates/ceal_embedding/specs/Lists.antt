-- The lists that a program makes of cells, each a block of the first struct with a number and a tail.
use Rattle.std.specs.Prelude.{◌≡◌, ◌&&◌, ℤ, pos, Bool, false, Option, Some, None, List, [], ◌∷◌, if◌then◌else◌}
use Rattle.std.specs.Int.{w64, int_wrapping_add}
use Rattle.ceal_base.specs.Access.{is_struct, word_in}
use Rattle.ceal_base.specs.Block.{Block}
use Rattle.ceal_base.specs.Fitting.{kind_in}
use Rattle.ceal_base.specs.declared.word.BlockId.{BlockId}
use Rattle.ceal_base.specs.declared.word.Place.{Place}
use Rattle.ceal_base.specs.declared.word.Word.{Word}
use Rattle.ceal_base.specs.declared.word.Word.TheVariants.{Num, Null, Block as BlockWord, At}
use Rattle.ceal_code.specs.Value.{is_cell as is_modifiable}
use Rattle.ceal_engine.specs.Engine.{EngineState, block_in, is_plain, stored_at}

-- what a modifiable holds at the end of a finished run; nothing where the place is none
abbrev pub held : EngineState → Place → Option Word
held e place =
    if is_modifiable (kind_in e.code.structs (block_in e place.block) place.field)
    then Some (word_in (stored_at e.memory place.block) place.field Null)
    else None

-- whether the block is there, and is a cell
abbrev pub is_cell : Option Block → Bool
is_cell None = false
is_cell (Some block) = is_struct 0 block.shape

-- the number that a word is
abbrev pub number_word : Word → Option ℤ
number_word (Num n) = Some n
number_word Null = None
number_word (BlockWord b) = None
number_word (At p) = None

-- the number of a cell, its first field
abbrev pub number_in : EngineState → BlockId → Option ℤ
number_in e cell =
    if is_cell (block_in e cell) && is_plain (kind_in e.code.structs (block_in e cell) 0)
    then number_word (word_in (block_in e cell) 0 Null)
    else None

-- the tail of a cell, its second field
abbrev pub tail_of : BlockId → Place
tail_of cell = record { block = cell; field = 1 }

-- the word is null, or points to the first cell of a list of these numbers
unfoldable pub IsListFrom : EngineState → Word → List ℤ → Type 0
IsListFrom e word [] = word ≡ Null
IsListFrom e word (n ∷ ns) =
    (cell : BlockId) × (tail : Word) × (word ≡ BlockWord cell) × (number_in e cell ≡ Some n)
    × (held e (tail_of cell) ≡ Some tail) × IsListFrom e tail ns

-- the modifiable holds a list of these numbers
abbrev pub IsList : EngineState → Place → List ℤ → Type 0
IsList e place ns = (first : Word) × (held e place ≡ Some first) × IsListFrom e first ns

-- the sum of numbers, with one before them; it wraps around as sums of the language do
abbrev pub sum_from : ℤ → List ℤ → ℤ
sum_from sum [] = sum
sum_from sum (n ∷ ns) = sum_from (int_wrapping_add w64 sum n) ns

-- the sum of numbers
abbrev pub sum_of : List ℤ → ℤ
sum_of ns = sum_from (pos 0) ns
