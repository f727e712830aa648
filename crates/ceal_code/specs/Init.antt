-- What a new block holds.
use Rattle.std.specs.Prelude.{ℕ, Option, Some, None, List, [], ◌∷◌, slice_get, slice_set, unwrap_or, if◌then◌else◌}
use Rattle.ceal_base.specs.Access.{holds}
use Rattle.ceal_base.specs.Block.{Block}
use Rattle.ceal_base.specs.Shapes.{default_block}
use Rattle.ceal_base.specs.declared.forest.Key.{Key}
use Rattle.ceal_base.specs.declared.forest.Key.TheVariants.{Init, ModInt as IntKey, ModPtr as PtrKey}
use Rattle.ceal_base.specs.declared.kind.FieldKind.{FieldKind}
use Rattle.ceal_base.specs.declared.kind.FieldKind.TheVariants.{Plain as PlainField}
use Rattle.ceal_base.specs.declared.kind.Shape.TheVariants.{Struct, ModInt, ModPtr}
use Rattle.ceal_base.specs.declared.typed.StructInfo.{StructInfo}
use Rattle.ceal_base.specs.declared.word.BlockId.{BlockId}
use Rattle.ceal_base.specs.declared.word.Word.{Word}
use Rattle.ceal_base.specs.declared.word.Word.TheVariants.{Null, Block as BlockWord, At}
use Rattle.ceal_code.specs.Program.{Code}
use Rattle.ceal_code.specs.Value.{Plain, Variables, field_kind, expr_value}
use Rattle.ceal_code.specs.declared.function.FunctionCode.{FunctionCode}
use Rattle.ceal_code.specs.declared.function.FunctionCode.TheVariants.{Core as CoreFunction, Init as InitFunction}
use Rattle.ceal_code.specs.declared.function.InitStmt.{InitStmt, Set, If', Row_of-InitStmt, end_of-InitStmt}
use Rattle.ceal_code.specs.declared.function.InitStmt.{more_of-InitStmt}

-- the words with another one at a field, if it is a plain one
abbrev pub set_plain : Option FieldKind → List Word → ℕ → Word → List Word
set_plain (Some (PlainField kind)) words field word = slice_set words field word
set_plain _ words field word = words

-- the words of the new block after a statement of the initialiser
unfoldable mutual
  pub set_by : List StructInfo → Plain → Variables → ℕ → List Word → InitStmt → List Word
  set_by structs x env s words (Set field e) =
      set_plain (field_kind structs (Struct s) field) words field (expr_value structs x env e)
  set_by structs x env s words (If' test _ first _ second) =
      if holds (expr_value structs x env test) then set_by_row structs x env s words first
      else set_by_row structs x env s words second

  -- the words of a block after the statements of a row
  pub set_by_row : List StructInfo → Plain → Variables → ℕ → List Word → {n : _} → Row_of-InitStmt n → List Word
  set_by_row structs x env s words end_of-InitStmt = words
  set_by_row structs x env s words (more_of-InitStmt stmt rest) =
      set_by_row structs x env s (set_by structs x env s words stmt) rest

-- and after all of them
unfoldable pub set_by_all : List StructInfo → Plain → Variables → ℕ → List Word → List InitStmt → List Word
set_by_all structs x env s words [] = words
set_by_all structs x env s words (stmt ∷ rest) = set_by_all structs x env s (set_by structs x env s words stmt) rest

-- the parameters of an initialiser
unfoldable pub arguments : List Word → Variables
arguments args = λ v. unwrap_or (slice_get args v) Null

-- the block that an initialiser makes with these arguments
abbrev pub initialised : List StructInfo → Plain → ℕ → List Word → List InitStmt → Block
initialised structs x s args body = record {
  shape = Struct s;
  words = set_by_all structs x (arguments args) s (default_block structs (Struct s)).words body;
}

-- a number that is not that of an initialiser makes one modifiable, which valid code never asks
abbrev pub made_by : List StructInfo → Plain → List Word → Option FunctionCode → Block
made_by structs x args (Some (InitFunction name s params body)) = initialised structs x s args body
made_by structs x args (Some (CoreFunction name entry params)) = default_block structs ModInt
made_by structs x args None = default_block structs ModInt

-- the block that is made for a key: every field at its default, and then what the initialiser sets
unfoldable pub made : Code → Plain → Key → Block
made code x (Init f args) = made_by code.structs x args (slice_get code.functions f)
made code x IntKey = default_block code.structs ModInt
made code x (PtrKey s) = default_block code.structs (ModPtr s)

-- what the variable gets: the block, or its one modifiable
abbrev pub pointer : Key → BlockId → Word
pointer (Init f args) b = BlockWord b
pointer IntKey b = At (record { block = b; field = 0 })
pointer (PtrKey s) b = At (record { block = b; field = 0 })
