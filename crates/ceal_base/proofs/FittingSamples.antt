-- Words and blocks that fit, and some that do not.
use Rattle.std.proofs.Common.{◌≡◌, pos, true, false, List, [], ◌∷◌, refl}
use Rattle.ceal_base.specs.Block.{Block, Blocks}
use Rattle.ceal_base.specs.Fitting.{fits_kind, inputs_fit}
use Rattle.ceal_base.specs.declared.kind.FieldKind.TheVariants.{Plain, CellPtr}
use Rattle.ceal_base.specs.declared.kind.Kind.TheVariants.{Int, Ptr, ModPtr}
use Rattle.ceal_base.specs.declared.kind.Shape.TheVariants.{Struct, ModPtr as OnePtr}
use Rattle.ceal_base.specs.declared.typed.StructInfo.{StructInfo}
use Rattle.ceal_base.specs.declared.word.BlockId.TheVariants.{Input}
use Rattle.ceal_base.specs.declared.word.Word.TheVariants.{Num, Null, Block as BlockWord, At}

-- struct cell { int head; mod struct cell tail; };
abbrev structs : List StructInfo
structs = record { name = []; fields = record { name = []; kind = Plain Int; row = 0 } ∷ record { name = []; kind = CellPtr 0; row = 0 } ∷ [] } ∷ []

-- a cell, and a modifiable that holds it
abbrev inputs : List Block
inputs = record { shape = Struct 0; words = Num (pos 3) ∷ Null ∷ [] }
    ∷ record { shape = OnePtr 0; words = BlockWord (Input 0) ∷ [] }
    ∷ []

abbrev memory : Blocks
memory = record { inputs = inputs; made = [] }

these_fit : inputs_fit structs inputs ≡ true
these_fit = refl

a_tail_is_a_modifiable : fits_kind structs memory (ModPtr 0) (At (record { block = Input 0; field = 1 })) ≡ true
a_tail_is_a_modifiable = refl

a_head_is_none : fits_kind structs memory (ModPtr 0) (At (record { block = Input 0; field = 0 })) ≡ false
a_head_is_none = refl

a_modifiable_is_no_cell : fits_kind structs memory (Ptr 0) (BlockWord (Input 1)) ≡ false
a_modifiable_is_no_cell = refl

null_is_no_number : fits_kind structs memory Int Null ≡ false
null_is_no_number = refl
