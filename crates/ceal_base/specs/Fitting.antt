-- Which word fits which kind: what a variable, an argument, a field or a modifiable may hold.
use Rattle.std.specs.Prelude.{ℕ, Bool, true, false, ◌&&◌, ◌==◌, is_some, Option, Some, None, List, [], ◌∷◌, slice_get}
use Rattle.std.specs.List.{list_all}
use Rattle.ceal_base.specs.Access.{pointed}
use Rattle.ceal_base.specs.Block.{Block, Blocks, alone, block_at}
use Rattle.ceal_base.specs.Shapes.{kinds_of_shape}
use Rattle.ceal_base.specs.declared.kind.FieldKind.{FieldKind}
use Rattle.ceal_base.specs.declared.kind.FieldKind.TheVariants.{Plain, CellInt, CellPtr}
use Rattle.ceal_base.specs.declared.kind.Kind.{Kind}
use Rattle.ceal_base.specs.declared.kind.Kind.TheVariants.{Int, Ptr, ModInt, ModPtr}
use Rattle.ceal_base.specs.declared.typed.StructInfo.{StructInfo}
use Rattle.ceal_base.specs.declared.word.Place.{Place}
use Rattle.ceal_base.specs.declared.word.Word.{Word}
use Rattle.ceal_base.specs.declared.word.Word.TheVariants.{Num, Null, Block as BlockWord, At}

-- the type of a field of the block, where there is that block and that field
abbrev pub kind_in : List StructInfo → Option Block → ℕ → Option FieldKind
kind_in structs None field = None
kind_in structs (Some block) field = slice_get (kinds_of_shape structs block.shape) field

-- the kind of the field at a place
abbrev pub kind_at : List StructInfo → Blocks → Place → Option FieldKind
kind_at structs m p = kind_in structs (block_at m p.block) p.field

-- the field is a modifiable that holds an `int`
abbrev pub is_int_cell : Option FieldKind → Bool
is_int_cell (Some CellInt) = true
is_int_cell _ = false

-- the field is a modifiable that holds a pointer to the struct
abbrev pub is_pointer_cell : ℕ → Option FieldKind → Bool
is_pointer_cell s (Some (CellPtr t)) = s == t
is_pointer_cell s _ = false

-- a number fits `int`; null fits every pointer; a block fits a pointer to its struct; a place fits a pointer to a
-- modifiable of its type
abbrev pub fits_kind : List StructInfo → Blocks → Kind → Word → Bool
fits_kind structs m Int (Num n) = true
fits_kind structs m (Ptr s) Null = true
fits_kind structs m (Ptr s) (BlockWord b) = is_some (pointed m s (BlockWord b))
fits_kind structs m ModInt Null = true
fits_kind structs m ModInt (At p) = is_int_cell (kind_at structs m p)
fits_kind structs m (ModPtr s) Null = true
fits_kind structs m (ModPtr s) (At p) = is_pointer_cell s (kind_at structs m p)
fits_kind structs m _ _ = false

-- an embedded modifiable takes what fits the type that it holds
abbrev pub fits_field : List StructInfo → Blocks → FieldKind → Word → Bool
fits_field structs m (Plain kind) word = fits_kind structs m kind word
fits_field structs m CellInt word = fits_kind structs m Int word
fits_field structs m (CellPtr s) word = fits_kind structs m (Ptr s) word

-- one word for each kind, which fits it
abbrev pub words_fit : List StructInfo → Blocks → List Kind → List Word → Bool
words_fit structs m [] [] = true
words_fit structs m (kind ∷ kinds) (word ∷ words) = fits_kind structs m kind word && words_fit structs m kinds words
words_fit structs m [] (word ∷ words) = false
words_fit structs m (kind ∷ kinds) [] = false

-- one word for each field, which fits it
abbrev pub fields_fit : List StructInfo → Blocks → List FieldKind → List Word → Bool
fields_fit structs m [] [] = true
fields_fit structs m (kind ∷ kinds) (word ∷ words) = fits_field structs m kind word && fields_fit structs m kinds words
fields_fit structs m [] (word ∷ words) = false
fields_fit structs m (kind ∷ kinds) [] = false

-- the block has one word for each field of its shape, which fits it in this memory
abbrev pub block_fits : List StructInfo → Blocks → Block → Bool
block_fits structs m block = fields_fit structs m (kinds_of_shape structs block.shape) block.words

-- each block fits
abbrev pub memory_fits : List StructInfo → Blocks → Bool
memory_fits structs m = list_all (block_fits structs m) m.inputs && list_all (block_fits structs m) m.made

-- the input blocks fit, where there are no core blocks
abbrev pub inputs_fit : List StructInfo → List Block → Bool
inputs_fit structs inputs = memory_fits structs (alone inputs)
