-- How words lie in the cells of a slot: a word takes two, of which the first says what it is.
use Rattle.std.specs.Prelude.{ℕ, ◌*◌, ◌/◌, ◌%◌, ◌^◌, ◌==◌, if◌then◌else◌, List, [], ◌∷◌, length, Option, Some, None}
use Rattle.std.specs.Int.{w64, cast_signed}
use Rattle.ceal_base.specs.declared.word.BlockId.TheVariants.{Input, Core}
use Rattle.ceal_base.specs.declared.word.Word.{Word}
use Rattle.ceal_base.specs.declared.word.Word.TheVariants.{Num, Null, Block, At}
use Rattle.ceal_words.specs.Region.{words_of}
use Rattle.ceal_words.specs.SizeClass.{SizeClass}
use Rattle.ceal_words.specs.declared.slot.Slot.{Slot}

-- the two halves of a cell
abbrev pub low : ℕ → ℕ
low cell = cell % 2 ^ 32

-- the upper half of a cell
abbrev pub high : ℕ → ℕ
high cell = cell / 2 ^ 32

-- the word of two cells; a place has its block in the lower half of the second, and its field in the upper half
abbrev pub word_of : ℕ → ℕ → Word
word_of sort cell =
    if sort == 0 then Num (cast_signed w64 cell)
    else if sort == 1 then Null
    else if sort == 2 then Block (Input (low cell))
    else if sort == 3 then Block (Core (low cell))
    else if sort == 4 then At (record { block = Input (low cell); field = high cell })
    else At (record { block = Core (low cell); field = high cell })

-- the words of cells, two by two; a single cell has none
abbrev pub words_in : List ℕ → List Word
words_in [] = []
words_in (sort ∷ []) = []
words_in (sort ∷ cell ∷ cells) = word_of sort cell ∷ words_in cells

-- the words of a slot's cells, none of a slot that is not there
abbrev pub words_read : Option (List ℕ) → List Word
words_read None = []
words_read (Some cells) = words_in cells

-- how many cells a block of n words has; a block without words has one
abbrev pub cell_count : ℕ → ℕ
cell_count words = if words == 0 then 1 else 2 * words

-- how many cells a slot has, 0 where it is not there
abbrev pub cells_held : Option (List ℕ) → ℕ
cells_held None = 0
cells_held (Some cells) = length cells

-- the words of a slot of the region, and how many cells it has
abbrev pub read_at : List SizeClass → Slot → List Word
read_at region slot = words_read (words_of region slot)

-- the cells of a slot
abbrev pub cells_at : List SizeClass → Slot → ℕ
cells_at region slot = cells_held (words_of region slot)
