-- A small memory, for a test and for computed samples: `struct cell { int head; mod struct cell tail; };` and
-- `struct pair { struct cell *left; struct cell *right; mod struct cell *at; mod struct cell *out; };`.
use Rattle.std.specs.Prelude.{pos, negsuc, [], ◌∷◌}
use Rattle.ceal_base.specs.Block.{Block, Blocks}
use Rattle.ceal_base.specs.declared.kind.Shape.TheVariants.{Struct, ModPtr}
use Rattle.ceal_base.specs.declared.word.BlockId.TheVariants.{Input, Core}
use Rattle.ceal_base.specs.declared.word.Word.TheVariants.{Num, Null, Block as BlockWord, At}

-- the modifiable `o`, which holds the first cell
abbrev pub cell_input : Block
cell_input = record { shape = ModPtr 0; words = BlockWord (Core 2) ∷ [] }

-- the pair `p`
abbrev pub pair_input : Block
pair_input = record {
  shape = Struct 1;
  words =
      BlockWord (Core 2) ∷ BlockWord (Core 1) ∷ At (record { block = Core 0; field = 1 })
      ∷ At (record { block = Input 0; field = 0 }) ∷ [];
}

abbrev pub last_cell : Block
last_cell = record { shape = Struct 0; words = Num (negsuc 19) ∷ Null ∷ [] }

abbrev pub other_cell : Block
other_cell = record { shape = Struct 0; words = Num (pos 0) ∷ BlockWord (Core 2) ∷ [] }

abbrev pub first_cell : Block
first_cell = record { shape = Struct 0; words = Num (pos 10) ∷ BlockWord (Core 0) ∷ [] }

abbrev pub sample : Blocks
sample = record { inputs = cell_input ∷ pair_input ∷ []; made = last_cell ∷ other_cell ∷ first_cell ∷ [] }
