-- The text of code.
use Rattle.std.specs.Prelude.{ℕ, zero, suc, ◌+◌, ◌-◌, ◌==◌, Bool, true, false, if◌then◌else◌, Option, Some, None, List}
use Rattle.std.specs.Prelude.{[], ◌∷◌, ◌++◌, length, take, replicate, slice_get, slice_set, codes}
use Rattle.std.specs.List.{ends_with}
use Rattle.std.specs.Fmt.{decimal, signed_decimal}
use Rattle.ceal_base.specs.declared.forest.UnitId.{UnitId}
use Rattle.ceal_base.specs.declared.kind.Shape.{Shape}
use Rattle.ceal_base.specs.declared.kind.Shape.TheVariants.{Struct, ModInt, ModPtr}
use Rattle.ceal_base.specs.declared.operators.Binary.{Binary}
use Rattle.ceal_base.specs.declared.operators.Binary.TheVariants.{Add, Sub, Mul, Div, Rem, Less, LessEq, More, MoreEq}
use Rattle.ceal_base.specs.declared.operators.Binary.TheVariants.{Same, Differ, And, Or, Pick}
use Rattle.ceal_base.specs.declared.operators.Unary.{Unary}
use Rattle.ceal_base.specs.declared.operators.Unary.TheVariants.{Neg, Not}
use Rattle.ceal_base.specs.declared.typed.FieldInfo.{FieldInfo}
use Rattle.ceal_base.specs.declared.typed.StructInfo.{StructInfo}
use Rattle.ceal_code.specs.Program.{Unit, Code}
use Rattle.ceal_code.specs.Valid.{followers}
use Rattle.ceal_code.specs.declared.command.Cmd.{Cmd}
use Rattle.ceal_code.specs.declared.command.Cmd.TheVariants.{Move, Tick, Alloc, Modref, Write, If, Done, Tail, Read}
use Rattle.ceal_code.specs.declared.command.Cmd.TheVariants.{Call}
use Rattle.ceal_code.specs.declared.expr.CodeExpr.{CodeExpr, Num, Null, Var, Unary', Binary', Field', Address'}
use Rattle.ceal_code.specs.declared.expr.CodeExpr.{Row_of-CodeExpr, end_of-CodeExpr, more_of-CodeExpr}
use Rattle.ceal_code.specs.declared.expr.VarId.{VarId}
use Rattle.ceal_code.specs.declared.function.FunctionCode.{FunctionCode}
use Rattle.ceal_code.specs.declared.function.FunctionCode.TheVariants.{Core as CoreFunction, Init as InitFunction}
use Rattle.ceal_code.specs.declared.function.InitStmt.{InitStmt, Set, If' as IfStmt', Row_of-InitStmt, end_of-InitStmt}
use Rattle.ceal_code.specs.declared.function.InitStmt.{more_of-InitStmt}

-- names; a number of nothing has the empty one
abbrev pub name_of_field : Option FieldInfo → List ℕ
name_of_field None = []
name_of_field (Some field) = field.name

-- the name of a struct's field, if both are there
abbrev pub field_name_in : Option StructInfo → ℕ → List ℕ
field_name_in None field = []
field_name_in (Some s) field = name_of_field (slice_get s.fields field)

-- the name of a field of the struct with this number
abbrev pub field_name : List StructInfo → ℕ → ℕ → List ℕ
field_name structs s field = field_name_in (slice_get structs s) field

-- the name of a struct, if it is there
abbrev pub name_of_struct : Option StructInfo → List ℕ
name_of_struct None = []
name_of_struct (Some s) = s.name

-- the name of a function, if it is there
abbrev pub name_of_function : Option FunctionCode → List ℕ
name_of_function None = []
name_of_function (Some (CoreFunction name entry params)) = name
name_of_function (Some (InitFunction name s params body)) = name

-- the sign of an operator on one word
abbrev pub unary_sign : Unary → List ℕ
unary_sign Neg = codes "-"
unary_sign Not = codes "!"

-- the sign of an operator on two words, with its spaces
abbrev pub binary_sign : Binary → List ℕ
binary_sign Add = codes " + "
binary_sign Sub = codes " - "
binary_sign Mul = codes " * "
binary_sign Div = codes " / "
binary_sign Rem = codes " % "
binary_sign Less = codes " < "
binary_sign LessEq = codes " <= "
binary_sign More = codes " > "
binary_sign MoreEq = codes " >= "
binary_sign Same = codes " == "
binary_sign Differ = codes " != "
binary_sign And = codes " && "
binary_sign Or = codes " || "
binary_sign (Pick row) = codes "["

-- whether the operator is that of an element of a row
abbrev pub is_pick : Binary → Bool
is_pick (Pick row) = true
is_pick op = false

-- a text without `[0]` at its end: the name of a row in place of that of its first field
abbrev pub without_index : List ℕ → List ℕ
without_index text = if ends_with ◌==◌ text (codes "[0]") then take (length text - 3) text else text

-- the text of a variable
abbrev pub var_text : VarId → List ℕ
var_text v = codes "v" ++ decimal v.0

-- the text of a unit's number
abbrev pub unit_text : UnitId → List ℕ
unit_text u = codes "u" ++ decimal u.0

unfoldable mutual
  -- the text of an expression
  pub expr_text : List StructInfo → CodeExpr → List ℕ
  expr_text structs (Num n) = signed_decimal n
  expr_text structs Null = codes "null"
  expr_text structs (Var v) = var_text v
  expr_text structs (Unary' op _ a) = codes "(" ++ unary_sign op ++ operand_text structs a ++ codes ")"
  expr_text structs (Binary' op _ a _ b) =
      if is_pick op then without_index (operand_text structs a) ++ binary_sign op ++ operand_text structs b ++ codes "]"
      else codes "(" ++ operand_text structs a ++ binary_sign op ++ operand_text structs b ++ codes ")"
  expr_text structs (Field' _ a s field) = operand_text structs a ++ codes "->" ++ field_name structs s field
  expr_text structs (Address' _ a s field) =
      codes "&" ++ operand_text structs a ++ codes "->" ++ field_name structs s field

  -- the text of an operand
  pub operand_text : List StructInfo → {n : _} → Row_of-CodeExpr n → List ℕ
  operand_text structs end_of-CodeExpr = []
  operand_text structs (more_of-CodeExpr e rest) = expr_text structs e

-- the texts of the expressions after the first, with a comma before each
unfoldable pub more_exprs : List StructInfo → List CodeExpr → List ℕ
more_exprs structs [] = []
more_exprs structs (e ∷ es) = codes ", " ++ expr_text structs e ++ more_exprs structs es

-- the texts of expressions with commas between
abbrev pub exprs_inside : List StructInfo → List CodeExpr → List ℕ
exprs_inside structs [] = []
exprs_inside structs (e ∷ es) = expr_text structs e ++ more_exprs structs es

-- the same in parentheses
abbrev pub exprs_text : List StructInfo → List CodeExpr → List ℕ
exprs_text structs es = codes "(" ++ exprs_inside structs es ++ codes ")"

-- the texts of variables with a comma before each
unfoldable pub more_vars : List VarId → List ℕ
more_vars [] = []
more_vars (v ∷ vs) = codes ", " ++ var_text v ++ more_vars vs

-- the texts of variables with commas between
abbrev pub vars_inside : List VarId → List ℕ
vars_inside [] = []
vars_inside (v ∷ vs) = var_text v ++ more_vars vs

-- the same in parentheses
abbrev pub vars_text : List VarId → List ℕ
vars_text vs = codes "(" ++ vars_inside vs ++ codes ")"

-- the text of what an allocation makes
abbrev pub shape_text : List StructInfo → Shape → List ℕ
shape_text structs ModInt = codes "int"
shape_text structs (ModPtr s) = name_of_struct (slice_get structs s)
shape_text structs (Struct s) = name_of_struct (slice_get structs s)

-- a command's line, without its indentation and its end
unfoldable pub command_text : Code → Cmd → List ℕ
command_text code (Move v e) = var_text v ++ codes " = " ++ expr_text code.structs e
command_text code Tick = codes "tick"
command_text code (Alloc v f args) =
    var_text v ++ codes " = alloc " ++ name_of_function (slice_get code.functions f) ++ exprs_text code.structs args
command_text code (Modref v shape) = var_text v ++ codes " = modref " ++ shape_text code.structs shape
command_text code (Write p e) =
    codes "write(" ++ expr_text code.structs p ++ codes ", " ++ expr_text code.structs e ++ codes ")"
command_text code (If test first second) = codes "if " ++ expr_text code.structs test
command_text code Done = codes "done"
command_text code (Tail w args) = codes "tail " ++ unit_text w ++ exprs_text code.structs args
command_text code (Read v p w args) =
    var_text v ++ codes " = read(" ++ expr_text code.structs p ++ codes ") "
    ++ unit_text w ++ exprs_text code.structs args
command_text code (Call f args w rest) =
    codes "call " ++ name_of_function (slice_get code.functions f) ++ exprs_text code.structs args
    ++ codes " " ++ unit_text w ++ exprs_text code.structs rest

-- two spaces for each level
unfoldable pub indent : ℕ → List ℕ
indent zero = []
indent (suc n) = codes "  " ++ indent n

-- a line at a depth
abbrev pub line : ℕ → List ℕ → List ℕ
line depth text = indent depth ++ text ++ codes "\n"

-- what is at these indices: at two of them, the parts of an `if`
abbrev pub at_each : (ℕ → ℕ → List ℕ) → List ℕ → ℕ → List ℕ
at_each on [] depth = []
at_each on (i ∷ []) depth = on i depth
at_each on (i ∷ j ∷ rest) depth = on i (depth + 1) ++ line depth (codes "else") ++ on j (depth + 1)

-- what follows a command
abbrev pub follows : (ℕ → ℕ → List ℕ) → Cmd → ℕ → ℕ → List ℕ
follows on c i depth = at_each on (followers c i) depth

-- the lines of a command, if it is there, and of what follows it
abbrev pub commands_at : Code → (ℕ → ℕ → List ℕ) → Option Cmd → ℕ → ℕ → List ℕ
commands_at code on None i depth = []
commands_at code on (Some c) i depth = line depth (command_text code c) ++ follows on c i depth

-- the lines of the commands on the paths from an index on, of at most `n` commands
unfoldable pub commands : Code → List Cmd → ℕ → ℕ → ℕ → List ℕ
commands code body zero i depth = []
commands code body (suc fuel) i depth = commands_at code (commands code body fuel) (slice_get body i) i depth

-- the lines of a unit
abbrev pub unit_lines : Code → ℕ → Unit → List ℕ
unit_lines code n unit =
    codes "u" ++ decimal n ++ vars_text unit.params ++ codes "\n" ++ commands code unit.body (length unit.body) 0 1

-- one more number at the end of one of the lists, where it is there
abbrev pub added_to : List (List ℕ) → Option (List ℕ) → ℕ → ℕ → List (List ℕ)
added_to groups None f n = groups
added_to groups (Some group) f n = slice_set groups f (group ++ n ∷ [])

-- the groups of units with unit n added to that of function f
abbrev pub added : List (List ℕ) → ℕ → ℕ → List (List ℕ)
added groups f n = added_to groups (slice_get groups f) f n

-- the numbers of units, from a number on, each put to those of its function
unfoldable pub grouped : List (List ℕ) → ℕ → List Unit → List (List ℕ)
grouped groups n [] = groups
grouped groups n (unit ∷ units) = grouped (added groups unit.function n) (n + 1) units

-- the lines of a unit, if it is there
abbrev pub unit_text_at : Code → ℕ → Option Unit → List ℕ
unit_text_at code n None = []
unit_text_at code n (Some unit) = unit_lines code n unit

-- the lines of these units
unfoldable pub units_text : Code → List ℕ → List ℕ
units_text code [] = []
units_text code (n ∷ ns) = unit_text_at code n (slice_get code.units n) ++ units_text code ns

-- the lines of the statements of an initialiser of the struct's blocks
unfoldable mutual
  pub stmt_text : List StructInfo → ℕ → ℕ → InitStmt → List ℕ
  stmt_text structs s depth (Set field e) =
      line depth (codes "self->" ++ field_name structs s field ++ codes " = " ++ expr_text structs e)
  stmt_text structs s depth (IfStmt' test _ first _ second) =
      line depth (codes "if " ++ expr_text structs test)
      ++ row_text structs s (depth + 1) first ++ else_row structs s depth second

  -- without statements there is no line `else`
  pub else_row : List StructInfo → ℕ → ℕ → {n : _} → Row_of-InitStmt n → List ℕ
  else_row structs s depth end_of-InitStmt = []
  else_row structs s depth (more_of-InitStmt stmt rest) =
      line depth (codes "else") ++ (stmt_text structs s (depth + 1) stmt ++ row_text structs s (depth + 1) rest)

  -- the lines of the statements of a row
  pub row_text : List StructInfo → ℕ → ℕ → {n : _} → Row_of-InitStmt n → List ℕ
  row_text structs s depth end_of-InitStmt = []
  row_text structs s depth (more_of-InitStmt stmt rest) =
      stmt_text structs s depth stmt ++ row_text structs s depth rest

-- the lines of the statements of a list
unfoldable pub stmts_text : List StructInfo → ℕ → ℕ → List InitStmt → List ℕ
stmts_text structs s depth [] = []
stmts_text structs s depth (stmt ∷ rest) = stmt_text structs s depth stmt ++ stmts_text structs s depth rest

-- the lines of an `else` part; none where it is empty
abbrev pub else_text : List StructInfo → ℕ → ℕ → List InitStmt → List ℕ
else_text structs s depth [] = []
else_text structs s depth (stmt ∷ rest) = line depth (codes "else") ++ stmts_text structs s (depth + 1) (stmt ∷ rest)

-- the lines of a function, whose units have these numbers
abbrev pub function_text : Code → FunctionCode → List ℕ → List ℕ
function_text code (CoreFunction name entry params) units =
    codes "fn " ++ name ++ codes " " ++ unit_text entry ++ codes "\n" ++ units_text code units
function_text code (InitFunction name s params body) units =
    codes "init " ++ name ++ codes "\n" ++ stmts_text code.structs s 1 body

-- the lines of functions, each with its units
unfoldable pub functions_text : Code → List FunctionCode → List (List ℕ) → List ℕ
functions_text code (function ∷ functions) (units ∷ groups) =
    function_text code function units ++ functions_text code functions groups
functions_text code [] groups = []
functions_text code (function ∷ functions) [] = []

-- each function in text order, with its units in the order of their numbers
unfoldable pub listing_text : Code → List ℕ
listing_text code = functions_text code code.functions (grouped (replicate (length code.functions) []) 0 code.units)
