-- What an expression of trace code gives. Everything is total: what is not there reads as its default.
use Rattle.std.specs.Prelude.{ℕ, pos, ◌==◌, ◌&&◌, Bool, true, false, Option, Some, None, List, [], ◌∷◌, slice_get}
use Rattle.std.specs.Prelude.{unwrap_or, is_some, if◌then◌else◌}
use Rattle.ceal_base.specs.Access.{of_struct, place_in}
use Rattle.ceal_base.specs.Block.{Block}
use Rattle.ceal_base.specs.Operators.{unary_value, binary_value}
use Rattle.ceal_base.specs.Shapes.{default_of_field, default_of_kind, kinds_of_shape}
use Rattle.ceal_base.specs.declared.kind.FieldKind.{FieldKind}
use Rattle.ceal_base.specs.declared.kind.FieldKind.TheVariants.{Plain as PlainField, CellInt, CellPtr}
use Rattle.ceal_base.specs.declared.kind.Shape.{Shape}
use Rattle.ceal_base.specs.declared.kind.Shape.TheVariants.{Struct}
use Rattle.ceal_base.specs.declared.typed.StructInfo.{StructInfo}
use Rattle.ceal_base.specs.declared.word.BlockId.{BlockId}
use Rattle.ceal_base.specs.declared.word.Word.{Word}
use Rattle.ceal_base.specs.declared.word.Word.TheVariants.{Num, Null, Block as BlockWord, At}
use Rattle.ceal_code.specs.declared.expr.CodeExpr.{CodeExpr, Num as NumExpr, Null as NullExpr, Var, Unary', Binary'}
use Rattle.ceal_code.specs.declared.expr.CodeExpr.{Field', Address'}
use Rattle.ceal_code.specs.declared.expr.CodeExpr.{Row_of-CodeExpr, end_of-CodeExpr, more_of-CodeExpr}

-- plain words: each known block by its number. Of a block only its shape and its plain fields are looked at
abbrev pub Plain : Type 0
Plain = BlockId → Option Block

-- the word of each variable of a function, by its number
abbrev pub Variables : Type 0
Variables = ℕ → Word

-- before any is set
unfoldable pub unset : Variables
unset = λ v. Null

-- with another word of one variable
unfoldable pub set : Variables → ℕ → Word → Variables
set env v word = λ u. if u == v then word else env u

-- the kind of a field of a block of this shape
abbrev pub field_kind : List StructInfo → Shape → ℕ → Option FieldKind
field_kind structs shape field = slice_get (kinds_of_shape structs shape) field

abbrev pub is_cell : Option FieldKind → Bool
is_cell None = false
is_cell (Some (PlainField kind)) = false
is_cell (Some CellInt) = true
is_cell (Some (CellPtr s)) = true

-- the default of a field; null, where it is not there
abbrev pub field_default : Option FieldKind → Word
field_default None = Null
field_default (Some kind) = default_of_field kind

-- the word of a field of this kind; a modifiable's content is no plain word, and a default stands for it
abbrev pub plain_word : Option FieldKind → List Word → ℕ → Word
plain_word (Some (PlainField kind)) words field = unwrap_or (slice_get words field) (default_of_kind kind)
plain_word (Some CellInt) words field = Num (pos 0)
plain_word (Some (CellPtr s)) words field = Null
plain_word None words field = Null

-- the block of the struct that the word points to
abbrev pub pointed : Plain → ℕ → Word → Option Block
pointed x s (BlockWord b) = of_struct s (x b)
pointed x s (Num n) = None
pointed x s Null = None
pointed x s (At p) = None

-- the plain word at a field of a block; its default, where the block is not there
abbrev pub field_in : Option FieldKind → Option Block → ℕ → Word
field_in kind None field = field_default kind
field_in kind (Some block) field = plain_word kind block.words field

-- `E->f`, where `E` gives the word: the field of the block of the struct that it points to, else the default
abbrev pub field_value : List StructInfo → Plain → Word → ℕ → ℕ → Word
field_value structs x word s field = field_in (field_kind structs (Struct s) field) (pointed x s word) field

-- `&E->f`, where `E` gives the word: null where it points to no block of the struct, and where `f` is plain
abbrev pub address_value : List StructInfo → Plain → Word → ℕ → ℕ → Word
address_value structs x word s field =
    if is_cell (field_kind structs (Struct s) field) && is_some (pointed x s word) then place_in word field else Null

-- what an expression gives
unfoldable mutual
  pub expr_value : List StructInfo → Plain → Variables → CodeExpr → Word
  expr_value structs x env (NumExpr n) = Num n
  expr_value structs x env NullExpr = Null
  expr_value structs x env (Var v) = env v.0
  expr_value structs x env (Unary' op _ a) = unary_value op (operand_value structs x env a)
  expr_value structs x env (Binary' op _ a _ b) =
      binary_value op (operand_value structs x env a) (operand_value structs x env b)
  expr_value structs x env (Field' _ a s field) = field_value structs x (operand_value structs x env a) s field
  expr_value structs x env (Address' _ a s field) = address_value structs x (operand_value structs x env a) s field

  -- the value of an operand
  pub operand_value : List StructInfo → Plain → Variables → {n : _} → Row_of-CodeExpr n → Word
  operand_value structs x env end_of-CodeExpr = Null
  operand_value structs x env (more_of-CodeExpr e rest) = expr_value structs x env e

-- what each of them gives
unfoldable pub values : List StructInfo → Plain → Variables → List CodeExpr → List Word
values structs x env [] = []
values structs x env (e ∷ es) = expr_value structs x env e ∷ values structs x env es
