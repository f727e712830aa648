-- The states of a run from scratch, and when everything that a state names is there.
use Rattle.std.specs.Prelude.{◌≡◌, ◌⊎◌, ℕ, ◌+◌, ◌<◌, true, Option, Some, None, List, [], ◌∷◌, length, slice_get}
use Rattle.std.specs.Prelude.{is_some, ⊤}
use Rattle.ceal_base.specs.Access.{pointed, content_of}
use Rattle.ceal_base.specs.Block.{Blocks, block_at, written_at}
use Rattle.ceal_base.specs.Finished.{with_block}
use Rattle.ceal_base.specs.Fitting.{kind_at, fits_kind, memory_fits}
use Rattle.ceal_base.specs.Shapes.{kinds_of_shape}
use Rattle.ceal_base.specs.declared.forest.Key.{Key}
use Rattle.ceal_base.specs.declared.forest.UnitId.{UnitId}
use Rattle.ceal_base.specs.declared.kind.FieldKind.{FieldKind}
use Rattle.ceal_base.specs.declared.kind.FieldKind.TheVariants.{Plain as PlainField, CellInt, CellPtr}
use Rattle.ceal_base.specs.declared.kind.Kind.{Kind}
use Rattle.ceal_base.specs.declared.kind.Shape.{Shape}
use Rattle.ceal_base.specs.declared.kind.Shape.TheVariants.{Struct, ModInt, ModPtr}
use Rattle.ceal_base.specs.declared.typed.StructInfo.{StructInfo}
use Rattle.ceal_base.specs.declared.word.BlockId.TheVariants.{Core}
use Rattle.ceal_base.specs.declared.word.Place.{Place}
use Rattle.ceal_base.specs.declared.word.Word.{Word}
use Rattle.ceal_base.specs.declared.word.Word.TheVariants.{Num, Null, Block as BlockWord, At}
use Rattle.ceal_code.specs.Init.{arguments, made, pointer}
use Rattle.ceal_code.specs.Program.{Code}
use Rattle.ceal_code.specs.Step.{Stack, Empty, Run, Quiet, Makes, Writes, Reads, unit_at, command_at, entry_of}
use Rattle.ceal_code.specs.Step.{kinds_of, variable_default, entered, words_after_read, stack_after_quiet, next}
use Rattle.ceal_code.specs.Valid.{others, is_core}
use Rattle.ceal_code.specs.Value.{Variables, set, field_kind, is_cell, expr_value, operand_value, values}
use Rattle.ceal_code.specs.declared.command.Cmd.{Cmd}
use Rattle.ceal_code.specs.declared.command.Cmd.TheVariants.{Move, Tick, Alloc, Modref, Write, If, Done, Tail, Read}
use Rattle.ceal_code.specs.declared.command.Cmd.TheVariants.{Call}
use Rattle.ceal_code.specs.declared.expr.CodeExpr.{CodeExpr, Num as NumExpr, Null as NullExpr, Var, Unary', Binary'}
use Rattle.ceal_code.specs.declared.expr.CodeExpr.{Field', Address', Row_of-CodeExpr, end_of-CodeExpr, more_of-CodeExpr}
use Rattle.ceal_code.specs.declared.expr.VarId.{VarId}
use Rattle.ceal_code.specs.declared.function.FunctionCode.{FunctionCode}
use Rattle.ceal_code.specs.declared.function.FunctionCode.TheVariants.{Core as CoreFunction, Init as InitFunction}
use Rattle.ceal_code.specs.declared.function.InitStmt.{InitStmt, Set, If' as IfStmt', Row_of-InitStmt, end_of-InitStmt}
use Rattle.ceal_code.specs.declared.function.InitStmt.{more_of-InitStmt}

-- one step of a run, from a memory and a stack to the next
pub data Steps (code : Code) : Blocks → Stack → Blocks → Stack → Type 0 where
  quiet : {m : Blocks} {st after : Stack} → next code (block_at m) st ≡ Quiet after → Steps code m st m after
  makes : {m : Blocks} {st below : Stack} {key : Key} {v u i : ℕ} {env : Variables}
      → next code (block_at m) st ≡ Makes key v u i env below
      → Steps code m st (with_block m (made code (block_at m) key))
      (Run u i (set env v (pointer key (Core (length m.made)))) below)
  writes : {m : Blocks} {st after : Stack} {p : Place} {value : Word}
      → next code (block_at m) st ≡ Writes p value after → Steps code m st (written_at m p.block p.field value) after
  reads : {m : Blocks} {st below : Stack} {p : Place} {u : UnitId} {v : ℕ} {args : List Word}
      → next code (block_at m) st ≡ Reads p u v args below
      → Steps code m st m
      (entered code u.0 (words_after_read code u.0 v args (content_of m (At p) (variable_default code u.0 v))) below)

-- any number of steps
pub data Reaches (code : Code) (m : Blocks) (st : Stack) : Blocks → Stack → Type 0 where
  begin : Reaches code m st m st
  step : {m' m'' : Blocks} {st' st'' : Stack}
      → Reaches code m st m' st' → Steps code m' st' m'' st'' → Reaches code m st m'' st''

-- the given number of steps
pub data Takes (code : Code) (m : Blocks) (st : Stack) : (steps : ℕ) → Blocks → Stack → Type 0 where
  none : Takes code m st 0 m st
  more : {k : ℕ} {m' m'' : Blocks} {st' st'' : Stack}
      → Takes code m st k m' st' → Steps code m' st' m'' st'' → Takes code m st (k + 1) m'' st''

-- null, or a block of the struct
abbrev pub Points : Blocks → ℕ → Word → Type 0
Points m s word = (word ≡ Null) ⊎ (is_some (pointed m s word) ≡ true)

-- null, or the place of a modifiable that is there
abbrev pub Modifiable : List StructInfo → Blocks → Word → Type 0
Modifiable structs m (At p) = is_cell (kind_at structs m p) ≡ true
Modifiable structs m Null = ⊤
Modifiable structs m (Num n) = ⊥
Modifiable structs m (BlockWord b) = ⊥

-- there is a variable of such a kind, and its word fits it
abbrev pub WordThere : List StructInfo → Blocks → Option Kind → Word → Type 0
WordThere structs m None w = ⊥
WordThere structs m (Some kind) w = fits_kind structs m kind w ≡ true

-- each variable of the expression is one of these kinds and has a word that fits it, each field is one of its struct,
-- and what is on the left of `->` points to a block of that struct or is null
abbrev mutual
  pub ExprThere : List StructInfo → Blocks → List Kind → Variables → CodeExpr → Type 0
  ExprThere structs m kinds env (NumExpr k) = ⊤
  ExprThere structs m kinds env NullExpr = ⊤
  ExprThere structs m kinds env (Var v) = WordThere structs m (slice_get kinds v.0) (env v.0)
  ExprThere structs m kinds env (Unary' op _ a) = OperandThere structs m kinds env a
  ExprThere structs m kinds env (Binary' op _ a _ b) =
      OperandThere structs m kinds env a × OperandThere structs m kinds env b
  ExprThere structs m kinds env (Field' _ a s field) =
      OperandThere structs m kinds env a × (field < length (kinds_of_shape structs (Struct s)))
      × Points m s (operand_value structs (block_at m) env a)
  ExprThere structs m kinds env (Address' _ a s field) =
      OperandThere structs m kinds env a × (field < length (kinds_of_shape structs (Struct s)))
      × Points m s (operand_value structs (block_at m) env a)

  -- all that an operand names is there
  pub OperandThere : List StructInfo → Blocks → List Kind → Variables → {k : _} → Row_of-CodeExpr k → Type 0
  OperandThere structs m kinds env end_of-CodeExpr = ⊤
  OperandThere structs m kinds env (more_of-CodeExpr e rest) = ExprThere structs m kinds env e

-- all that expressions name is there
abbrev pub ExprsThere : List StructInfo → Blocks → List Kind → Variables → List CodeExpr → Type 0
ExprsThere structs m kinds env [] = ⊤
ExprsThere structs m kinds env (e ∷ es) = ExprThere structs m kinds env e × ExprsThere structs m kinds env es

-- the struct has such a field, and it is no modifiable
abbrev pub IsPlainField : Option FieldKind → Type 0
IsPlainField None = ⊥
IsPlainField (Some (PlainField kind)) = ⊤
IsPlainField (Some CellInt) = ⊥
IsPlainField (Some (CellPtr s)) = ⊥

-- each field that a statement of an initialiser of the struct's blocks sets is there, and all that its expressions name
abbrev mutual
  pub StmtThere : List StructInfo → Blocks → List Kind → Variables → ℕ → InitStmt → Type 0
  StmtThere structs m kinds env s (Set field e) =
      IsPlainField (field_kind structs (Struct s) field) × ExprThere structs m kinds env e
  StmtThere structs m kinds env s (IfStmt' test _ first _ second) =
      ExprThere structs m kinds env test × RowThere structs m kinds env s first × RowThere structs m kinds env s second

  -- the same of the statements of a row
  pub RowThere : List StructInfo → Blocks → List Kind → Variables → ℕ → {k : _} → Row_of-InitStmt k → Type 0
  RowThere structs m kinds env s end_of-InitStmt = ⊤
  RowThere structs m kinds env s (more_of-InitStmt stmt rest) =
      StmtThere structs m kinds env s stmt × RowThere structs m kinds env s rest

-- the same of the statements of a list
abbrev pub StmtsThere : List StructInfo → Blocks → List Kind → Variables → ℕ → List InitStmt → Type 0
StmtsThere structs m kinds env s [] = ⊤
StmtsThere structs m kinds env s (stmt ∷ rest) =
    StmtThere structs m kinds env s stmt × StmtsThere structs m kinds env s rest

-- an initialiser with one parameter for each word; its struct is there, and on these words all that its body names
abbrev pub Initialiser : List StructInfo → Blocks → Option FunctionCode → List Word → Type 0
Initialiser structs m (Some (InitFunction name s params body)) args =
    (length params ≡ length args) × (s < length structs) × StmtsThere structs m params (arguments args) s body
Initialiser structs m (Some (CoreFunction name entry params)) args = ⊥
Initialiser structs m None args = ⊥

-- the shape is that of a modifiable
abbrev pub NotStruct : Shape → Type 0
NotStruct ModInt = ⊤
NotStruct (ModPtr s) = ⊤
NotStruct (Struct s) = ⊥

-- the kinds of the variables of the unit's function
abbrev pub variables : Code → ℕ → List Kind
variables code u = kinds_of code (unit_at code u).function

-- a unit of the function is there, and there is one argument for each of the parameters
pub record UnitThere (code : Code) (f w : ℕ) (params : List VarId) (args : List CodeExpr) : Type 0 where
  pub there : w < length code.units
  pub function : (unit_at code w).function ≡ f
  pub words : length args ≡ length params

-- a tail goes to a unit that takes a step or is done
abbrev pub NoTail : Cmd → Type 0
NoTail (Tail w args) = ⊥
NoTail _ = ⊤

-- all that the command names is there
abbrev pub CommandThere : Code → Blocks → ℕ → Variables → Cmd → Type 0
CommandThere code m u env (Move v e) =
    (v.0 < length (variables code u)) × ExprThere code.structs m (variables code u) env e
CommandThere code m u env Tick = ⊤
CommandThere code m u env (Alloc v g args) =
    (v.0 < length (variables code u)) × ExprsThere code.structs m (variables code u) env args
    × Initialiser code.structs m (slice_get code.functions g) (values code.structs (block_at m) env args)
CommandThere code m u env (Modref v shape) = (v.0 < length (variables code u)) × NotStruct shape
CommandThere code m u env (Write p e) =
    ExprThere code.structs m (variables code u) env p × ExprThere code.structs m (variables code u) env e
    × Modifiable code.structs m (expr_value code.structs (block_at m) env p)
CommandThere code m u env (If test first second) =
    ExprThere code.structs m (variables code u) env test
    × (first < length (unit_at code u).body) × (second < length (unit_at code u).body)
CommandThere code m u env Done = ⊤
CommandThere code m u env (Tail w args) =
    ExprsThere code.structs m (variables code u) env args
    × UnitThere code (unit_at code u).function w.0 (unit_at code w.0).params args × NoTail (command_at code w.0 0)
CommandThere code m u env (Read v p w args) =
    (v.0 < length (variables code u)) × ExprThere code.structs m (variables code u) env p
    × Modifiable code.structs m (expr_value code.structs (block_at m) env p)
    × ExprsThere code.structs m (variables code u) env args
    × UnitThere code (unit_at code u).function w.0 (others v.0 (unit_at code w.0).params) args
CommandThere code m u env (Call g args w rest) =
    (is_core (slice_get code.functions g) ≡ true) × ExprsThere code.structs m (variables code u) env args
    × UnitThere code g (entry_of code g) (unit_at code (entry_of code g)).params args
    × ExprsThere code.structs m (variables code u) env rest
    × UnitThere code (unit_at code u).function w.0 (unit_at code w.0).params rest

-- each unit of the stack is there, and is at a command of its body, with all that this command names
abbrev pub StackThere : Code → Blocks → Stack → Type 0
StackThere code m Empty = ⊤
StackThere code m (Run u i env below) =
    (u < length code.units) × (i < length (unit_at code u).body) × CommandThere code m u env (command_at code u i)
    × StackThere code m below

-- where no command is left but such that take no step, the run is at its end; else there is a next state
abbrev pub GoesOn : Code → Blocks → Stack → Stack → Type 0
GoesOn code m st Empty = ⊤
GoesOn code m st (Run u i env below) = (m' : Blocks) × (st' : Stack) × Steps code m st m' st'

-- a state of a run that is not stuck: the words of its memory fit, so the blocks and places that they name are there
pub record NotStuck (code : Code) (m : Blocks) (st : Stack) : Type 0 where
  pub memory : memory_fits code.structs m ≡ true
  pub stack : StackThere code m st
  pub settles : StackThere code m (stack_after_quiet code (block_at m) st)
  pub goes_on : GoesOn code m st (stack_after_quiet code (block_at m) st)
