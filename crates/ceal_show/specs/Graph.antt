-- The text of the memory that a block reaches.
use Rattle.std.specs.Prelude.{◌≡◌, ℕ, ◌+◌, Option, Some, None, List, [], ◌∷◌, ◌++◌, slice_get, codes, if◌then◌else◌}
use Rattle.std.specs.Fmt.{decimal, signed_decimal}
use Rattle.ceal_base.specs.declared.kind.Shape.{Shape}
use Rattle.ceal_base.specs.declared.kind.Shape.TheVariants.{Struct, ModInt, ModPtr}
use Rattle.ceal_base.specs.declared.typed.FieldInfo.{FieldInfo}
use Rattle.ceal_base.specs.declared.typed.StructInfo.{StructInfo}
use Rattle.ceal_base.specs.declared.word.BlockId.{BlockId}
use Rattle.ceal_base.specs.declared.word.BlockId.TheVariants.{Input, Core}
use Rattle.ceal_base.specs.declared.word.Word.{Word}
use Rattle.ceal_base.specs.declared.word.Word.TheVariants.{Num, Null, Block as BlockWord, At}
use Rattle.ceal_show.specs.Shown.{Shown, shape_at, words_at}
use Rattle.ceal_show.specs.Paths.{same_block, AreReached}

-- the name of a struct, if it is there
abbrev pub name_in : Option StructInfo → List ℕ
name_in None = []
name_in (Some s) = s.name

-- the name of the struct with this number
abbrev pub struct_name : List StructInfo → ℕ → List ℕ
struct_name structs s = name_in (slice_get structs s)

-- the struct's name, or what the one modifiable holds
abbrev pub kind_text : List StructInfo → Shape → List ℕ
kind_text structs (Struct s) = struct_name structs s
kind_text structs ModInt = codes "mod int"
kind_text structs (ModPtr s) = codes "mod " ++ struct_name structs s

-- the name of a field, if it is there
abbrev pub field_text : Option FieldInfo → List ℕ
field_text None = []
field_text (Some field) = field.name

-- the name of a struct's field
abbrev pub field_in : Option StructInfo → ℕ → List ℕ
field_in None field = []
field_in (Some s) field = field_text (slice_get s.fields field)

-- the name of a field; that of the one modifiable is `value`
abbrev pub field_name : List StructInfo → Shape → ℕ → List ℕ
field_name structs (Struct s) field = field_in (slice_get structs s) field
field_name structs ModInt field = codes "value"
field_name structs (ModPtr s) field = codes "value"

-- 1 for a core block, and 0 for an input
abbrev pub core_count : BlockId → ℕ
core_count (Input n) = 0
core_count (Core n) = 1

-- the number of core blocks before the block
abbrev pub cores_before : BlockId → List BlockId → ℕ
cores_before b [] = 0
cores_before b (c ∷ cs) = if same_block b c then 0 else core_count c + cores_before b cs

-- an input's name; core blocks are numbered from 1 in the order of the list
abbrev pub label_text : (ℕ → List ℕ) → List BlockId → BlockId → List ℕ
label_text name blocks (Input n) = name n
label_text name blocks (Core n) = codes "#" ++ decimal (cores_before (Core n) blocks + 1)

-- what follows the label in a pointer to a modifiable: nothing where the block has no other field
abbrev pub suffix_text : List StructInfo → Option Shape → ℕ → List ℕ
suffix_text structs None field = []
suffix_text structs (Some (Struct s)) field = codes "." ++ field_in (slice_get structs s) field
suffix_text structs (Some ModInt) field = []
suffix_text structs (Some (ModPtr s)) field = []

-- What a text is about: the structs, the memory, the names of its inputs, and the blocks that have labels.
pub record Scene : Type 0 where
  pub structs : List StructInfo
  pub memory : Shown
  pub name : ℕ → List ℕ
  pub blocks : List BlockId

-- the text of a word
abbrev pub word_text : Scene → Word → List ℕ
word_text scene (Num n) = signed_decimal n
word_text scene Null = codes "null"
word_text scene (BlockWord b) = label_text scene.name scene.blocks b
word_text scene (At p) =
    label_text scene.name scene.blocks p.block ++ suffix_text scene.structs (shape_at scene.memory p.block) p.field

-- ` NAME=VALUE`
abbrev pub field_word_text : Scene → Shape → ℕ → Word → List ℕ
field_word_text scene shape field word =
    codes " " ++ field_name scene.structs shape field ++ codes "=" ++ word_text scene word

-- the same for each word, the first of which is that of this field
unfoldable pub fields_text : Scene → Shape → ℕ → List Word → List ℕ
fields_text scene shape field [] = []
fields_text scene shape field (word ∷ words) =
    field_word_text scene shape field word ++ fields_text scene shape (field + 1) words

-- the line of a block: its label, its kind and its fields
abbrev pub block_text : Scene → BlockId → Option Shape → List ℕ
block_text scene b None = []
block_text scene b (Some shape) =
    label_text scene.name scene.blocks b ++ codes " " ++ kind_text scene.structs shape
    ++ fields_text scene shape 0 (words_at scene.memory b) ++ codes "\n"

-- a line for each block
unfoldable pub lines_text : Scene → List BlockId → List ℕ
lines_text scene [] = []
lines_text scene (b ∷ bs) = block_text scene b (shape_at scene.memory b) ++ lines_text scene bs

-- The text is that of the memory that the root reaches: a line for each block in the order of the paths, and `end`.
pub record IsGraphText
    (structs : List StructInfo) (memory : Shown) (name : ℕ → List ℕ) (root : BlockId)
    (text : List ℕ) : Type 0 where
  pub blocks : List BlockId
  pub reached : AreReached memory root blocks
  pub is_text : text
      ≡ lines_text (record { structs = structs; memory = memory; name = name; blocks = blocks }) blocks ++ codes "end\n"
