-- What a block of a shape has: the types of its fields, and their defaults.
use Rattle.std.specs.Prelude.{ℕ, pos, Option, Some, None, List, [], ◌∷◌, map, slice_get}
use Rattle.ceal_base.specs.Block.{Block}
use Rattle.ceal_base.specs.declared.kind.FieldKind.{FieldKind}
use Rattle.ceal_base.specs.declared.kind.FieldKind.TheVariants.{Plain, CellInt, CellPtr}
use Rattle.ceal_base.specs.declared.kind.Kind.{Kind}
use Rattle.ceal_base.specs.declared.kind.Kind.TheVariants.{Int, Ptr, ModInt, ModPtr}
use Rattle.ceal_base.specs.declared.kind.Shape.{Shape}
use Rattle.ceal_base.specs.declared.kind.Shape.TheVariants.{Struct, ModInt as OneInt, ModPtr as OnePtr}
use Rattle.ceal_base.specs.declared.typed.FieldInfo.{FieldInfo}
use Rattle.ceal_base.specs.declared.typed.StructInfo.{StructInfo}
use Rattle.ceal_base.specs.declared.word.Word.{Word}
use Rattle.ceal_base.specs.declared.word.Word.TheVariants.{Num, Null}

-- what a variable or a plain field of this type starts as: 0 or null
abbrev pub default_of_kind : Kind → Word
default_of_kind Int = Num (pos 0)
default_of_kind (Ptr s) = Null
default_of_kind ModInt = Null
default_of_kind (ModPtr s) = Null

-- the same where there may be no type; what has none starts as null
abbrev pub default_of : Option Kind → Word
default_of (Some kind) = default_of_kind kind
default_of None = Null

-- what a field starts as; of an embedded modifiable it is what the modifiable holds
abbrev pub default_of_field : FieldKind → Word
default_of_field (Plain kind) = default_of_kind kind
default_of_field CellInt = Num (pos 0)
default_of_field (CellPtr s) = Null

-- the kind of a field
abbrev pub kind_of_field : FieldInfo → FieldKind
kind_of_field f = f.kind

-- the types of a struct's fields in text order, none of a number without a struct
abbrev pub field_kinds : Option StructInfo → List FieldKind
field_kinds None = []
field_kinds (Some s) = map kind_of_field s.fields

-- how many fields the row has that begins at a field
abbrev pub row_of_field : FieldInfo → ℕ
row_of_field f = f.row

-- how long the row is that begins at each field, in text order: 0 where none begins
abbrev pub field_rows : Option StructInfo → List ℕ
field_rows None = []
field_rows (Some s) = map row_of_field s.fields

-- the same of a field by the number of its struct and its own
abbrev pub row_at : List StructInfo → ℕ → ℕ → Option ℕ
row_at structs s field = slice_get (field_rows (slice_get structs s)) field

-- the types of the fields of a block of this shape
abbrev pub kinds_of_shape : List StructInfo → Shape → List FieldKind
kinds_of_shape structs (Struct s) = field_kinds (slice_get structs s)
kinds_of_shape structs OneInt = CellInt ∷ []
kinds_of_shape structs (OnePtr s) = CellPtr s ∷ []

-- a new block: every field at its default
abbrev pub default_block : List StructInfo → Shape → Block
default_block structs shape = record { shape = shape; words = map default_of_field (kinds_of_shape structs shape) }
