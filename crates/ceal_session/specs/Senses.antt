-- What the names, places and values of a line stand for.
use Rattle.std.specs.Prelude.{ℕ, Bool, true, false, Option, Some, None, List, [], ◌∷◌, position, slice_get, bytes_eq}
use Rattle.ceal_base.specs.declared.kind.FieldKind.{FieldKind}
use Rattle.ceal_base.specs.declared.kind.FieldKind.TheVariants.{Plain as PlainField, CellInt, CellPtr}
use Rattle.ceal_base.specs.declared.kind.Shape.{Shape}
use Rattle.ceal_base.specs.declared.kind.Shape.TheVariants.{Struct, ModInt, ModPtr}
use Rattle.ceal_base.specs.declared.typed.FieldInfo.{FieldInfo}
use Rattle.ceal_base.specs.declared.typed.StructInfo.{StructInfo}
use Rattle.ceal_base.specs.declared.typed.TypedFunction.{TypedFunction}
use Rattle.ceal_base.specs.declared.word.BlockId.TheVariants.{Input}
use Rattle.ceal_base.specs.declared.word.Word.{Word}
use Rattle.ceal_base.specs.declared.word.Word.TheVariants.{Num, Null, Block as BlockWord, At as AtPlace}
use Rattle.ceal_script.specs.declared.command.KindWord.{KindWord}
use Rattle.ceal_script.specs.declared.command.KindWord.TheVariants.{Int as IntWord, Named}
use Rattle.ceal_script.specs.declared.command.PlaceWord.{PlaceWord}
use Rattle.ceal_script.specs.declared.command.ValueWord.{ValueWord}
use Rattle.ceal_script.specs.declared.command.ValueWord.TheVariants.{Num as NumWord, Null as NullWord, At}
use Rattle.ceal_session.specs.State.{State}
use Rattle.ceal_session.specs.declared.sense.Sense.{Sense}
use Rattle.ceal_session.specs.declared.sense.Sense.TheVariants.{Unknown, Plain, Word as IsWord}
use Rattle.ceal_show.specs.Shown.{shape_in}

-- the numbers of a struct, a function and a field of a name, counted in text order
abbrev pub struct_named : State → List ℕ → Option ℕ
struct_named s name = position (λ (t : StructInfo). bytes_eq t.name name) s.program.structs

abbrev pub function_named : State → List ℕ → Option ℕ
function_named s name = position (λ (f : TypedFunction). bytes_eq f.name.text name) s.program.functions

abbrev pub fields_of : Option StructInfo → List FieldInfo
fields_of None = []
fields_of (Some s) = s.fields

abbrev pub fields_numbered : State → ℕ → List FieldInfo
fields_numbered s number = fields_of (slice_get s.program.structs number)

abbrev pub field_named : List FieldInfo → List ℕ → Option ℕ
field_named fields name = position (λ (f : FieldInfo). bytes_eq f.name name) fields

-- the number of an input of a name
abbrev pub input_named : State → List ℕ → Option ℕ
input_named s name = position (bytes_eq name) s.names

-- the modifiable in a field of an input
abbrev pub modifiable : ℕ → ℕ → Sense
modifiable input field = IsWord (AtPlace (record { block = Input input; field = field }))

-- NAME: the block of an input made by `new`, the modifiable of one made by `mod`
abbrev pub block_sense : ℕ → Option Shape → Sense
block_sense n None = Unknown
block_sense n (Some (Struct s)) = IsWord (BlockWord (Input n))
block_sense n (Some ModInt) = modifiable n 0
block_sense n (Some (ModPtr s)) = modifiable n 0

-- the field of this number and type
abbrev pub kind_sense : ℕ → ℕ → FieldKind → Sense
kind_sense n field (PlainField kind) = Plain
kind_sense n field CellInt = modifiable n field
kind_sense n field (CellPtr s) = modifiable n field

abbrev pub field_sense : ℕ → ℕ → Option FieldInfo → Sense
field_sense n field None = Unknown
field_sense n field (Some f) = kind_sense n field f.kind

abbrev pub member_sense : ℕ → List FieldInfo → Option ℕ → Sense
member_sense n fields None = Unknown
member_sense n fields (Some field) = field_sense n field (slice_get fields field)

-- NAME.FIELD: an embedded modifiable, or a plain field, of an input made by `new`; one made by `mod` has no fields
abbrev pub part_sense : State → ℕ → List ℕ → Option Shape → Sense
part_sense s n field None = Unknown
part_sense s n field (Some (Struct number)) =
    member_sense n (fields_numbered s number) (field_named (fields_numbered s number) field)
part_sense s n field (Some ModInt) = Unknown
part_sense s n field (Some (ModPtr number)) = Unknown

abbrev pub shape_at : State → ℕ → Option Shape
shape_at s n = shape_in (slice_get s.inputs n)

abbrev pub input_sense : State → ℕ → Option (List ℕ) → Sense
input_sense s n None = block_sense n (shape_at s n)
input_sense s n (Some field) = part_sense s n field (shape_at s n)

abbrev pub found_sense : State → Option ℕ → Option (List ℕ) → Sense
found_sense s None field = Unknown
found_sense s (Some n) field = input_sense s n field

-- what a place of a line stands for
abbrev pub place_sense : State → PlaceWord → Sense
place_sense s place = found_sense s (input_named s place.name) place.field

-- what a value of a line stands for
abbrev pub value_sense : State → ValueWord → Sense
value_sense s (NumWord n) = IsWord (Num n)
value_sense s NullWord = IsWord Null
value_sense s (At place) = place_sense s place

abbrev pub is_unknown : Sense → Bool
is_unknown Unknown = true
is_unknown _ = false

-- the words of all values, where each stands for one
abbrev pub more_words : Sense → Option (List Word) → Option (List Word)
more_words (IsWord w) (Some ws) = Some (w ∷ ws)
more_words _ _ = None

unfoldable pub words_of : List Sense → Option (List Word)
words_of [] = Some []
words_of (sense ∷ senses) = more_words sense (words_of senses)

-- the shape of a block made by `mod`
abbrev pub pointer_shape : Option ℕ → Option Shape
pointer_shape None = None
pointer_shape (Some s) = Some (ModPtr s)

abbrev pub mod_shape : State → KindWord → Option Shape
mod_shape s IntWord = Some ModInt
mod_shape s (Named name) = pointer_shape (struct_named s name)

-- the shape of a block made by `new`
abbrev pub struct_shape : Option ℕ → Option Shape
struct_shape None = None
struct_shape (Some s) = Some (Struct s)
