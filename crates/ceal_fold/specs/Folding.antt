-- The folding of code: in each unit, uses of copies and operators on constants are replaced from the root
-- down, and then moves that nothing uses from the leaves up.
use Rattle.std.specs.Prelude.{ℕ, ◌+◌, ◌==◌, ◌&&◌, ◌||◌, Bool, true, false, not, if◌then◌else◌, Option, Some, None, List}
use Rattle.std.specs.Prelude.{[], ◌∷◌}
use Rattle.ceal_base.specs.Operators.{unary_value, binary_value}
use Rattle.ceal_base.specs.declared.kind.Shape.TheVariants.{Struct}
use Rattle.ceal_base.specs.declared.operators.Binary.{Binary as BinaryOp}
use Rattle.ceal_base.specs.declared.operators.Unary.{Unary as UnaryOp}
use Rattle.ceal_base.specs.declared.typed.StructInfo.{StructInfo}
use Rattle.ceal_base.specs.declared.word.Word.{Word}
use Rattle.ceal_base.specs.declared.word.Word.TheVariants.{Num, Null, Block as BlockWord, At}
use Rattle.ceal_code.specs.Program.{Unit, Code}
use Rattle.ceal_code.specs.Valid.{followers}
use Rattle.ceal_code.specs.Value.{field_kind, field_default}
use Rattle.ceal_code.specs.declared.command.Cmd.{Cmd}
use Rattle.ceal_code.specs.declared.command.Cmd.TheVariants.{Move, Tick, Alloc, Modref, Write, If, Done, Tail, Read}
use Rattle.ceal_code.specs.declared.command.Cmd.TheVariants.{Call}
use Rattle.ceal_code.specs.declared.expr.CodeExpr.{CodeExpr, Num as NumExpr, Null as NullExpr, Var, Unary', Binary'}
use Rattle.ceal_code.specs.declared.expr.CodeExpr.{Field', Address'}
use Rattle.ceal_code.specs.declared.expr.CodeExpr.{Row_of-CodeExpr, end_of-CodeExpr, more_of-CodeExpr}
use Rattle.ceal_code.specs.declared.expr.CodeExpr.TheViews.{Unary, Binary, Field, Address}
use Rattle.ceal_code.specs.declared.expr.VarId.{VarId}
use Rattle.ceal_fold.specs.declared.copies.Copied.{Copied}
use Rattle.ceal_fold.specs.declared.copies.Copied.TheVariants.{Num as CopiedNum, Null as CopiedNull, Var as CopiedVar}

-- What each variable is a copy of at a point of a path: where its last assignment was a move of a constant, or of a
-- variable that was not assigned since, that one.
abbrev pub Copies : Type 0
Copies = ℕ → Option Copied

-- no variable is known to be a copy
unfoldable pub no_copies : Copies
no_copies = λ v. None

-- a use of the variable
abbrev pub use_of : VarId → Option Copied → CodeExpr
use_of v None = Var v
use_of v (Some (CopiedNum n)) = NumExpr n
use_of v (Some CopiedNull) = NullExpr
use_of v (Some (CopiedVar w)) = Var w

-- the word of a constant
abbrev pub constant : CodeExpr → Option Word
constant (NumExpr n) = Some (Num n)
constant NullExpr = Some Null
constant _ = None

-- the constant for a number or null
abbrev pub constant_expr : Word → CodeExpr
constant_expr (Num n) = NumExpr n
constant_expr Null = NullExpr
constant_expr (BlockWord b) = NullExpr
constant_expr (At p) = NullExpr

-- whether the expression is `null`
abbrev pub is_null : CodeExpr → Bool
is_null NullExpr = true
is_null _ = false

-- an operator on operands of which these are the constants
abbrev pub unary_folded : UnaryOp → CodeExpr → Option Word → CodeExpr
unary_folded op a None = Unary op a
unary_folded op a (Some x) = constant_expr (unary_value op x)

-- an operator on two operands, whose values are given where they are constants
abbrev pub binary_folded : BinaryOp → CodeExpr → CodeExpr → Option Word → Option Word → CodeExpr
binary_folded op a b None y = Binary op a b
binary_folded op a b (Some x) None = Binary op a b
binary_folded op a b (Some x) (Some y) = constant_expr (binary_value op x y)

-- a field of null is the field's default, and its address is null
abbrev pub field_folded : List StructInfo → CodeExpr → ℕ → ℕ → CodeExpr
field_folded structs a s field =
    if is_null a then constant_expr (field_default (field_kind structs (Struct s) field)) else Field a s field

-- the address of a field; that of a field of `null` is null
abbrev pub address_folded : CodeExpr → ℕ → ℕ → CodeExpr
address_folded a s field = if is_null a then NullExpr else Address a s field

unfoldable mutual
  -- an expression with copies in place of its variables, and with operators on constants computed
  pub folded_expr : List StructInfo → Copies → CodeExpr → CodeExpr
  folded_expr structs known (NumExpr n) = NumExpr n
  folded_expr structs known NullExpr = NullExpr
  folded_expr structs known (Var v) = use_of v (known v.0)
  folded_expr structs known (Unary' op _ a) =
      unary_folded op (folded_operand structs known a) (constant (folded_operand structs known a))
  folded_expr structs known (Binary' op _ a _ b) =
      binary_folded op (folded_operand structs known a) (folded_operand structs known b)
      (constant (folded_operand structs known a)) (constant (folded_operand structs known b))
  folded_expr structs known (Field' _ a s field) = field_folded structs (folded_operand structs known a) s field
  folded_expr structs known (Address' _ a s field) = address_folded (folded_operand structs known a) s field

  -- the same of an operand
  pub folded_operand : List StructInfo → Copies → {n : _} → Row_of-CodeExpr n → CodeExpr
  folded_operand structs known end_of-CodeExpr = NullExpr
  folded_operand structs known (more_of-CodeExpr e rest) = folded_expr structs known e

-- the same of each expression of a list
unfoldable pub folded_exprs : List StructInfo → Copies → List CodeExpr → List CodeExpr
folded_exprs structs known [] = []
folded_exprs structs known (e ∷ es) = folded_expr structs known e ∷ folded_exprs structs known es

-- a command with its expressions folded
abbrev pub folded_command : List StructInfo → Copies → Cmd → Cmd
folded_command structs known (Move v e) = Move v (folded_expr structs known e)
folded_command structs known Tick = Tick
folded_command structs known (Alloc v g args) = Alloc v g (folded_exprs structs known args)
folded_command structs known (Modref v shape) = Modref v shape
folded_command structs known (Write p e) = Write (folded_expr structs known p) (folded_expr structs known e)
folded_command structs known (If test first second) = If (folded_expr structs known test) first second
folded_command structs known Done = Done
folded_command structs known (Tail w args) = Tail w (folded_exprs structs known args)
folded_command structs known (Read v p w args) =
    Read v (folded_expr structs known p) w (folded_exprs structs known args)
folded_command structs known (Call g args w rest) =
    Call g (folded_exprs structs known args) w (folded_exprs structs known rest)

-- what a variable is a copy of after a move of this expression to it
abbrev pub copy_by : ℕ → CodeExpr → Option Copied
copy_by v (NumExpr n) = Some (CopiedNum n)
copy_by v NullExpr = Some CopiedNull
copy_by v (Var w) = if w.0 == v then None else Some (CopiedVar w)
copy_by v _ = None

-- what is left of a copy after an assignment to the variable
abbrev pub copy_without : ℕ → Option Copied → Option Copied
copy_without v None = None
copy_without v (Some (CopiedNum n)) = Some (CopiedNum n)
copy_without v (Some CopiedNull) = Some CopiedNull
copy_without v (Some (CopiedVar w)) = if w.0 == v then None else Some (CopiedVar w)

-- after an assignment to the variable, which makes it this copy
unfoldable pub copies_with : Copies → ℕ → Option Copied → Copies
copies_with known v copy = λ u. if u == v then copy else copy_without v (known u)

-- after a command
abbrev pub copies_after : Copies → Cmd → Copies
copies_after known (Move v e) = copies_with known v.0 (copy_by v.0 e)
copies_after known (Alloc v g args) = copies_with known v.0 None
copies_after known (Modref v shape) = copies_with known v.0 None
copies_after known _ = known

-- whether the index is in the list
unfoldable pub is_among : ℕ → List ℕ → Bool
is_among j [] = false
is_among j (k ∷ ks) = j == k || is_among j ks

-- the copies at each index past the command at index `i`: its followers have those after the command
unfoldable pub copies_past : (ℕ → Copies) → ℕ → Cmd → (ℕ → Copies)
copies_past at i c = λ j. if is_among j (followers c i) then copies_after (at i) c else at j

-- From the root down: the commands that are from an index on, each with its expressions folded.
unfoldable pub folded_commands : List StructInfo → (ℕ → Copies) → ℕ → List Cmd → List Cmd
folded_commands structs at i [] = []
folded_commands structs at i (c ∷ cs) =
    folded_command structs (at i) c
    ∷ folded_commands structs (copies_past at i (folded_command structs (at i) c)) (i + 1) cs

unfoldable mutual
  -- whether the expression mentions the variable
  pub mentions : CodeExpr → ℕ → Bool
  mentions (NumExpr n) v = false
  mentions NullExpr v = false
  mentions (Var w) v = w.0 == v
  mentions (Unary' op _ a) v = operand_mentions a v
  mentions (Binary' op _ a _ b) v = operand_mentions a v || operand_mentions b v
  mentions (Field' _ a s field) v = operand_mentions a v
  mentions (Address' _ a s field) v = operand_mentions a v

  -- the same of an operand
  pub operand_mentions : {n : _} → Row_of-CodeExpr n → ℕ → Bool
  operand_mentions end_of-CodeExpr v = false
  operand_mentions (more_of-CodeExpr e rest) v = mentions e v

-- whether one of the expressions mentions the variable
unfoldable pub all_mention : List CodeExpr → ℕ → Bool
all_mention [] v = false
all_mention (e ∷ es) v = mentions e v || all_mention es v

-- the command uses the variable
abbrev pub uses : Cmd → ℕ → Bool
uses (Move w e) v = mentions e v
uses Tick v = false
uses (Alloc w g args) v = all_mention args v
uses (Modref w shape) v = false
uses (Write p e) v = mentions p v || mentions e v
uses (If test first second) v = mentions test v
uses Done v = false
uses (Tail w args) v = all_mention args v
uses (Read w p u args) v = mentions p v || all_mention args v
uses (Call g args w rest) v = all_mention args v || all_mention rest v

-- whether the command assigns the variable
abbrev pub assigns : Cmd → ℕ → Bool
assigns (Move w e) v = w.0 == v
assigns (Alloc w g args) v = w.0 == v
assigns (Modref w shape) v = w.0 == v
assigns _ v = false

-- `later` says what is used from an index on
unfoldable pub used_in : (ℕ → ℕ → Bool) → List ℕ → ℕ → Bool
used_in later [] v = false
used_in later (j ∷ js) v = later j v || used_in later js v

-- whether the variable is used from a command on: by it, or after it where it does not assign it
abbrev pub used_by : (ℕ → ℕ → Bool) → Cmd → ℕ → ℕ → Bool
used_by later c i v = uses c v || (not (assigns c v) && used_in later (followers c i) v)

-- where the commands are from index `i` on, the variable is used at or after index `j` before it is assigned again
unfoldable pub used : ℕ → List Cmd → ℕ → ℕ → Bool
used i [] j v = false
used i (c ∷ cs) j v = if j == i then used_by (used (i + 1) cs) c i v else used (i + 1) cs j v

-- the command; only a step, where it is a move of a variable that is not used later
abbrev pub command_or_tick : (ℕ → Bool) → Cmd → Cmd
command_or_tick later (Move v e) = if later v.0 then Move v e else Tick
command_or_tick later c = c

-- From the leaves up: the commands that are from an index on, each move that nothing later uses a tick.
unfoldable pub without_unused : ℕ → List Cmd → List Cmd
without_unused i [] = []
without_unused i (c ∷ cs) =
    command_or_tick (used_in (used (i + 1) (without_unused (i + 1) cs)) (followers c i)) c ∷ without_unused (i + 1) cs

-- what is known at the root of a body: nothing
abbrev pub at_root : ℕ → Copies
at_root i = no_copies

-- a unit with its body folded
abbrev pub folded_unit : List StructInfo → Unit → Unit
folded_unit structs unit = record unit { body = without_unused 0 (folded_commands structs at_root 0 unit.body) }

-- the same of each unit
unfoldable pub folded_units : List StructInfo → List Unit → List Unit
folded_units structs [] = []
folded_units structs (unit ∷ units) = folded_unit structs unit ∷ folded_units structs units

-- functions, initialisers among them, kinds and structs stay
abbrev pub folded : Code → Code
folded code = record code { units = folded_units code.structs code.units }
