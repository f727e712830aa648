-- When code is valid: every number is in range, a variable is used only where it has a word, and expressions have the
-- types that are asked for. A unit's body is a tree that is gone through forwards, so that each command of it lies on a
-- path from the first.
use Rattle.std.specs.Prelude.{ℕ, zero, suc, ◌+◌, ◌==◌, ◌&&◌, nat_lt, nat_le, Bool, true, false, not, if◌then◌else◌}
use Rattle.std.specs.Prelude.{Option, Some, None, List, [], ◌∷◌, ◌++◌, length, replicate, slice_get, slice_set}
use Rattle.std.specs.Prelude.{unwrap_or}
use Rattle.ceal_base.specs.Kinds.{same_kind, is_pointer}
use Rattle.ceal_base.specs.Shapes.{row_at}
use Rattle.ceal_base.specs.declared.kind.FieldKind.{FieldKind}
use Rattle.ceal_base.specs.declared.kind.FieldKind.TheVariants.{Plain as PlainField, CellInt, CellPtr}
use Rattle.ceal_base.specs.declared.kind.Kind.{Kind}
use Rattle.ceal_base.specs.declared.kind.Kind.TheVariants.{Int, Ptr, ModInt, ModPtr}
use Rattle.ceal_base.specs.declared.kind.Shape.{Shape}
use Rattle.ceal_base.specs.declared.kind.Shape.TheVariants.{Struct, ModInt as OneInt, ModPtr as OnePtr}
use Rattle.ceal_base.specs.declared.operators.Binary.{Binary}
use Rattle.ceal_base.specs.declared.operators.Binary.TheVariants.{Same, Differ, Pick}
use Rattle.ceal_base.specs.declared.typed.FieldInfo.{FieldInfo}
use Rattle.ceal_base.specs.declared.typed.StructInfo.{StructInfo}
use Rattle.ceal_code.specs.Program.{Unit, Code}
use Rattle.ceal_code.specs.Step.{kinds_of}
use Rattle.ceal_code.specs.Value.{field_kind, is_cell}
use Rattle.ceal_code.specs.declared.command.Cmd.{Cmd}
use Rattle.ceal_code.specs.declared.command.Followers.{Followers}
use Rattle.ceal_code.specs.declared.command.Followers.TheVariants.{Nowhere, One, Two}
use Rattle.ceal_code.specs.declared.command.Cmd.TheVariants.{Move, Tick, Alloc, Modref, Write, If, Done, Tail, Read}
use Rattle.ceal_code.specs.declared.command.Cmd.TheVariants.{Call}
use Rattle.ceal_code.specs.declared.expr.CodeExpr.{CodeExpr, Num, Null, Var, Unary', Binary', Field', Address'}
use Rattle.ceal_code.specs.declared.expr.CodeExpr.{Row_of-CodeExpr, end_of-CodeExpr, more_of-CodeExpr}
use Rattle.ceal_code.specs.declared.expr.VarId.{VarId}
use Rattle.ceal_code.specs.declared.function.FunctionCode.{FunctionCode}
use Rattle.ceal_code.specs.declared.function.FunctionCode.TheVariants.{Core as CoreFunction, Init as InitFunction}
use Rattle.ceal_code.specs.declared.function.InitStmt.{InitStmt, Set, If' as IfStmt', Row_of-InitStmt, end_of-InitStmt}
use Rattle.ceal_code.specs.declared.function.InitStmt.{more_of-InitStmt}
use Rattle.ceal_code.specs.declared.typing.ExprType.{ExprType}
use Rattle.ceal_code.specs.declared.typing.ExprType.TheVariants.{Of, AnyPointer, AnyPlace}

-- The type of an expression: None where it is ill typed. Null has every pointer type, and an element of null every type
-- of a pointer to a modifiable.
abbrev pub Typing : Type 0
Typing = Option ExprType

-- a pointer to a modifiable
abbrev pub is_place : Kind → Bool
is_place Int = false
is_place (Ptr s) = false
is_place ModInt = true
is_place (ModPtr s) = true

-- a modifiable may hold it
abbrev pub is_content : Kind → Bool
is_content Int = true
is_content (Ptr s) = true
is_content ModInt = false
is_content (ModPtr s) = false

-- an expression of this type may be used where the kind is asked for
abbrev pub fits : Kind → Typing → Bool
fits kind None = false
fits kind (Some AnyPointer) = is_pointer kind
fits kind (Some AnyPlace) = is_place kind
fits kind (Some (Of other)) = same_kind kind other

-- whether a type fits a kind that is there
abbrev pub fits_maybe : Option Kind → Typing → Bool
fits_maybe None t = false
fits_maybe (Some kind) t = fits kind t

-- both sides of `==` and `!=` are of one type
abbrev pub one_type : Typing → Typing → Bool
one_type None t = false
one_type (Some AnyPointer) None = false
one_type (Some AnyPointer) (Some (Of kind)) = is_pointer kind
one_type (Some AnyPointer) (Some t) = true
one_type (Some AnyPlace) None = false
one_type (Some AnyPlace) (Some (Of kind)) = is_place kind
one_type (Some AnyPlace) (Some t) = true
one_type (Some (Of kind)) t = fits kind t

-- the type of a number, if the condition holds
abbrev pub int_if : Bool → Typing
int_if true = Some (Of Int)
int_if false = None

-- the type of an element of a row, given that of the row's address or of null
abbrev pub element_type : Typing → Typing
element_type None = None
element_type (Some AnyPointer) = Some AnyPlace
element_type (Some AnyPlace) = Some AnyPlace
element_type (Some (Of kind)) = Some (Of kind)

-- the type of an operator on two words, by theirs
abbrev pub binary_type : Binary → Typing → Typing → Typing
binary_type Same s t = int_if (one_type s t)
binary_type Differ s t = int_if (one_type s t)
binary_type (Pick row) s t = if fits Int t then element_type s else None
binary_type op s t = int_if (fits Int s && fits Int t)

-- whether a row of this length begins here
abbrev pub is_row_of : ℕ → Option ℕ → Bool
is_row_of row None = false
is_row_of row (Some n) = nat_lt 0 row && (n == row)

-- null, or the address of the first one of a row of this length
abbrev pub starts_row : List StructInfo → ℕ → CodeExpr → Bool
starts_row structs row Null = true
starts_row structs row (Address' _ a s field) = is_row_of row (row_at structs s field)
starts_row structs row _ = false

-- what `Pick` asks of its left operand beside its type
abbrev pub left_suits : List StructInfo → Binary → CodeExpr → Bool
left_suits structs (Pick row) a = starts_row structs row a
left_suits structs op a = true

-- whether the first operand suits the operator
abbrev pub operand_suits : List StructInfo → Binary → {n : _} → Row_of-CodeExpr n → Bool
operand_suits structs op end_of-CodeExpr = false
operand_suits structs op (more_of-CodeExpr e rest) = left_suits structs op e

-- a known variable's kind
abbrev pub variable_type : Option Kind → Bool → Typing
variable_type None known = None
variable_type (Some kind) known = if known then Some (Of kind) else None

-- the type asked left of `->`
abbrev pub points_to : ℕ → Typing → Bool
points_to s (Some (Of kind)) = same_kind (Ptr s) kind
points_to s (Some AnyPointer) = false
points_to s (Some AnyPlace) = false
points_to s None = false

abbrev pub plain_type : Option FieldKind → Typing
plain_type (Some (PlainField kind)) = Some (Of kind)
plain_type (Some CellInt) = None
plain_type (Some (CellPtr s)) = None
plain_type None = None

abbrev pub cell_type : Option FieldKind → Typing
cell_type (Some (PlainField kind)) = None
cell_type (Some CellInt) = Some (Of ModInt)
cell_type (Some (CellPtr s)) = Some (Of (ModPtr s))
cell_type None = None

-- the type of an expression, where the function's variables have these kinds and those that are known have a word
unfoldable mutual
  pub type_of : List StructInfo → List Kind → List Bool → CodeExpr → Typing
  type_of structs kinds known (Num n) = Some (Of Int)
  type_of structs kinds known Null = Some AnyPointer
  type_of structs kinds known (Var v) = variable_type (slice_get kinds v.0) (unwrap_or (slice_get known v.0) false)
  type_of structs kinds known (Unary' op _ a) = int_if (fits Int (operand_type structs kinds known a))
  type_of structs kinds known (Binary' op _ a _ b) =
      if operand_suits structs op a
      then binary_type op (operand_type structs kinds known a) (operand_type structs kinds known b) else None
  type_of structs kinds known (Field' _ a s field) =
      if points_to s (operand_type structs kinds known a)
      then plain_type (field_kind structs (Struct s) field) else None
  type_of structs kinds known (Address' _ a s field) =
      if points_to s (operand_type structs kinds known a)
      then cell_type (field_kind structs (Struct s) field) else None

  pub operand_type : List StructInfo → List Kind → List Bool → {n : _} → Row_of-CodeExpr n → Typing
  operand_type structs kinds known end_of-CodeExpr = None
  operand_type structs kinds known (more_of-CodeExpr e rest) = type_of structs kinds known e

-- one argument of the right type for each kind
unfoldable pub all_fit : List StructInfo → List Kind → List Bool → List Kind → List CodeExpr → Bool
all_fit structs kinds known [] [] = true
all_fit structs kinds known (asked ∷ more) (e ∷ es) =
    fits asked (type_of structs kinds known e) && all_fit structs kinds known more es
all_fit structs kinds known _ _ = false

-- one argument of the right type for each parameter, whose kinds are these
unfoldable pub params_fit : List StructInfo → List Kind → List Bool → List Kind → List VarId → List CodeExpr → Bool
params_fit structs kinds known theirs [] [] = true
params_fit structs kinds known theirs (p ∷ ps) (e ∷ es) =
    fits_maybe (slice_get theirs p.0) (type_of structs kinds known e) && params_fit structs kinds known theirs ps es
params_fit structs kinds known theirs _ _ = false

-- the parameters but the variable that a read sets
unfoldable pub others : ℕ → List VarId → List VarId
others v [] = []
others v (p ∷ ps) = if p.0 == v then others v ps else p ∷ others v ps

-- the arguments are for a unit of the function
abbrev pub unit_fits : Code → ℕ → List Bool → Option Unit → List CodeExpr → Bool
unit_fits code f known None args = false
unit_fits code f known (Some unit) args =
    unit.function == f && params_fit code.structs (kinds_of code f) known (kinds_of code f) unit.params args

-- and with the variable that a read sets
abbrev pub read_fits : Code → ℕ → List Bool → ℕ → Option Unit → List CodeExpr → Bool
read_fits code f known v None args = false
read_fits code f known v (Some unit) args =
    unit.function == f && params_fit code.structs (kinds_of code f) known (kinds_of code f) (others v unit.params) args

-- the arguments are for the entry unit of another function
abbrev pub entry_fits : Code → ℕ → List Bool → ℕ → Option Unit → List CodeExpr → Bool
entry_fits code f known g None args = false
entry_fits code f known g (Some unit) args =
    params_fit code.structs (kinds_of code f) known (kinds_of code g) unit.params args

abbrev pub call_fits : Code → ℕ → List Bool → ℕ → Option FunctionCode → List CodeExpr → Bool
call_fits code f known g (Some (CoreFunction name entry params)) args =
    entry_fits code f known g (slice_get code.units entry.0) args
call_fits code f known g (Some (InitFunction name s params body)) args = false
call_fits code f known g None args = false

abbrev pub alloc_fits : Code → ℕ → List Bool → Option Kind → Option FunctionCode → List CodeExpr → Bool
alloc_fits code f known kind (Some (InitFunction name s params body)) args =
    fits_maybe kind (Some (Of (Ptr s))) && all_fit code.structs (kinds_of code f) known params args
alloc_fits code f known kind (Some (CoreFunction name entry params)) args = false
alloc_fits code f known kind None args = false

abbrev pub modref_fits : Option Kind → Shape → Bool
modref_fits kind OneInt = fits_maybe kind (Some (Of ModInt))
modref_fits kind (OnePtr s) = fits_maybe kind (Some (Of (ModPtr s)))
modref_fits kind (Struct s) = false

-- a place of this type is one of a modifiable that holds such values; null and an element of null may stand for it
abbrev pub place_fits : Option Kind → Typing → Bool
place_fits (Some Int) t = fits ModInt t
place_fits (Some (Ptr s)) t = fits (ModPtr s) t
place_fits _ t = false

-- a value of this type goes into some modifiable
abbrev pub content_fits : Typing → Bool
content_fits None = false
content_fits (Some AnyPointer) = true
content_fits (Some AnyPlace) = false
content_fits (Some (Of kind)) = is_content kind

-- a value of the second type goes into a place of the first
abbrev pub write_fits : Typing → Typing → Bool
write_fits (Some (Of ModInt)) t = fits Int t
write_fits (Some (Of (ModPtr s))) t = fits (Ptr s) t
write_fits (Some AnyPointer) t = content_fits t
write_fits (Some AnyPlace) t = content_fits t
write_fits _ t = false

-- a command of a unit of the function, where these variables are known; `stepped` says that a command before it
-- takes a step
abbrev pub command_ok : Code → ℕ → List Bool → Bool → Cmd → Bool
command_ok code f known stepped (Move v e) =
    fits_maybe (slice_get (kinds_of code f) v.0) (type_of code.structs (kinds_of code f) known e)
command_ok code f known stepped Tick = true
command_ok code f known stepped (Alloc v g args) =
    alloc_fits code f known (slice_get (kinds_of code f) v.0) (slice_get code.functions g) args
command_ok code f known stepped (Modref v shape) = modref_fits (slice_get (kinds_of code f) v.0) shape
command_ok code f known stepped (Write p e) =
    write_fits (type_of code.structs (kinds_of code f) known p) (type_of code.structs (kinds_of code f) known e)
command_ok code f known stepped (If test first second) = fits Int (type_of code.structs (kinds_of code f) known test)
command_ok code f known stepped Done = true
command_ok code f known stepped (Tail w args) = stepped && unit_fits code f known (slice_get code.units w.0) args
command_ok code f known stepped (Read v p w args) =
    place_fits (slice_get (kinds_of code f) v.0) (type_of code.structs (kinds_of code f) known p)
    && read_fits code f known v.0 (slice_get code.units w.0) args
command_ok code f known stepped (Call g args w rest) =
    call_fits code f known g (slice_get code.functions g) args && unit_fits code f known (slice_get code.units w.0) rest

-- the path continues correctly after a command
abbrev pub onward : (ℕ → List Bool → Bool → Bool) → Cmd → ℕ → List Bool → Bool
onward on (Move v e) i known = on (i + 1) (slice_set known v.0 true) true
onward on Tick i known = on (i + 1) known true
onward on (Alloc v g args) i known = on (i + 1) (slice_set known v.0 true) true
onward on (Modref v shape) i known = on (i + 1) (slice_set known v.0 true) true
onward on (Write p e) i known = on (i + 1) known true
onward on (If test first second) i known = on first known true && on second known true
onward on Done i known = true
onward on (Tail w args) i known = true
onward on (Read v p w args) i known = true
onward on (Call g args w rest) i known = true

abbrev pub path_ok : Code → ℕ → (ℕ → List Bool → Bool → Bool) → Option Cmd → ℕ → List Bool → Bool → Bool
path_ok code f on None i known stepped = false
path_ok code f on (Some c) i known stepped = command_ok code f known stepped c && onward on c i known

-- each path of a body from an index on, of at most `n` commands; in a body that goes forward no path is longer
-- than the body
unfoldable pub paths_ok : Code → ℕ → List Cmd → ℕ → ℕ → List Bool → Bool → Bool
paths_ok code f body zero i known stepped = false
paths_ok code f body (suc fuel) i known stepped =
    path_ok code f (paths_ok code f body fuel) (slice_get body i) i known stepped

-- the indices at which an `If` continues are after it
abbrev pub goes_forward : Cmd → ℕ → Bool
goes_forward (Move v e) i = true
goes_forward Tick i = true
goes_forward (Alloc v g args) i = true
goes_forward (Modref v shape) i = true
goes_forward (Write p e) i = true
goes_forward (If test first second) i = nat_lt i first && nat_lt i second
goes_forward Done i = true
goes_forward (Tail w args) i = true
goes_forward (Read v p w args) i = true
goes_forward (Call g args w rest) i = true

-- so it is with each `If` of a body, on a path or not
unfoldable pub all_forward : List Cmd → ℕ → Bool
all_forward [] i = true
all_forward (c ∷ cs) i = goes_forward c i && all_forward cs (i + 1)

-- the indices at which a run may continue after a command
abbrev pub followers : Cmd → ℕ → List ℕ
followers (Move v e) i = (i + 1) ∷ []
followers Tick i = (i + 1) ∷ []
followers (Alloc v g args) i = (i + 1) ∷ []
followers (Modref v shape) i = (i + 1) ∷ []
followers (Write p e) i = (i + 1) ∷ []
followers (If test first second) i = first ∷ second ∷ []
followers Done i = []
followers (Tail w args) i = []
followers (Read v p w args) i = []
followers (Call g args w rest) i = []

-- the same as a list
abbrev pub indices_in : Followers → List ℕ
indices_in Nowhere = []
indices_in (One i) = i ∷ []
indices_in (Two i j) = i ∷ j ∷ []

unfoldable pub all_followers : List Cmd → ℕ → List ℕ
all_followers [] i = []
all_followers (c ∷ cs) i = followers c i ++ all_followers cs (i + 1)

-- the indices that are reached, unless one of them is reached again or is not there
unfoldable pub reached : List Bool → List ℕ → Option (List Bool)
reached marks [] = Some marks
reached marks (j ∷ js) = if unwrap_or (slice_get marks j) true then None else reached (slice_set marks j true) js

unfoldable pub all_true : List Bool → Bool
all_true [] = true
all_true (b ∷ bs) = b && all_true bs

abbrev pub all_but_first : Option (List Bool) → Bool
all_but_first (Some (b ∷ bs)) = not b && all_true bs
all_but_first (Some []) = false
all_but_first None = false

-- each index but 0 is reached from exactly one command
unfoldable pub is_tree : List Cmd → Bool
is_tree body = all_but_first (reached (replicate (length body) false) (all_followers body 0))

-- the variables that are known at the beginning of a unit
unfoldable pub with_params : List Bool → List VarId → List Bool
with_params known [] = known
with_params known (p ∷ ps) = with_params (slice_set known p.0 true) ps

unfoldable pub below : ℕ → List VarId → Bool
below n [] = true
below n (p ∷ ps) = nat_lt p.0 n && below n ps

abbrev pub is_core : Option FunctionCode → Bool
is_core (Some (CoreFunction name entry params)) = true
is_core (Some (InitFunction name s params body)) = false
is_core None = false

abbrev pub body_ok : Code → ℕ → List VarId → List Cmd → Bool
body_ok code f params body =
    (all_forward body 0 && is_tree body)
    && paths_ok code f body (length body) 0 (with_params (replicate (length (kinds_of code f)) false) params) false

unfoldable pub unit_ok : Code → Unit → Bool
unit_ok code unit =
    is_core (slice_get code.functions unit.function)
    && (below (length (kinds_of code unit.function)) unit.params && body_ok code unit.function unit.params unit.body)

unfoldable pub units_ok : Code → List Unit → Bool
units_ok code [] = true
units_ok code (unit ∷ units) = unit_ok code unit && units_ok code units

-- a value of this type may be set in a field of this kind
abbrev pub set_ok : Option FieldKind → Typing → Bool
set_ok (Some (PlainField kind)) t = fits kind t
set_ok (Some CellInt) t = false
set_ok (Some (CellPtr s)) t = false
set_ok None t = false

-- the statements of an initialiser of blocks of the struct
unfoldable mutual
  pub stmt_ok : List StructInfo → List Kind → List Bool → ℕ → InitStmt → Bool
  stmt_ok structs kinds known s (Set field e) =
      set_ok (field_kind structs (Struct s) field) (type_of structs kinds known e)
  stmt_ok structs kinds known s (IfStmt' test _ first _ second) =
      fits Int (type_of structs kinds known test)
      && (row_ok structs kinds known s first && row_ok structs kinds known s second)

  pub row_ok : List StructInfo → List Kind → List Bool → ℕ → {n : _} → Row_of-InitStmt n → Bool
  row_ok structs kinds known s end_of-InitStmt = true
  row_ok structs kinds known s (more_of-InitStmt stmt rest) =
      stmt_ok structs kinds known s stmt && row_ok structs kinds known s rest

unfoldable pub stmts_ok : List StructInfo → List Kind → List Bool → ℕ → List InitStmt → Bool
stmts_ok structs kinds known s [] = true
stmts_ok structs kinds known s (stmt ∷ rest) = stmt_ok structs kinds known s stmt && stmts_ok structs kinds known s rest

-- the struct that a kind names is there
abbrev pub kind_ok : List StructInfo → Kind → Bool
kind_ok structs Int = true
kind_ok structs (Ptr s) = nat_lt s (length structs)
kind_ok structs ModInt = true
kind_ok structs (ModPtr s) = nat_lt s (length structs)

unfoldable pub kinds_ok : List StructInfo → List Kind → Bool
kinds_ok structs [] = true
kinds_ok structs (kind ∷ kinds) = kind_ok structs kind && kinds_ok structs kinds

abbrev pub field_ok : List StructInfo → FieldKind → Bool
field_ok structs (PlainField kind) = kind_ok structs kind
field_ok structs CellInt = true
field_ok structs (CellPtr s) = nat_lt s (length structs)

unfoldable pub fields_ok : List StructInfo → List FieldInfo → Bool
fields_ok structs [] = true
fields_ok structs (field ∷ fields) = field_ok structs field.kind && fields_ok structs fields

abbrev pub same_field : FieldKind → FieldKind → Bool
same_field (PlainField kind) (PlainField other) = same_kind kind other
same_field CellInt CellInt = true
same_field (CellPtr s) (CellPtr t) = s == t
same_field _ _ = false

-- the next fields, this many, are of this kind, and no row begins at one of them
unfoldable pub row_goes_on : ℕ → FieldKind → List FieldInfo → Bool
row_goes_on zero kind rest = true
row_goes_on (suc n) kind [] = false
row_goes_on (suc n) kind (f ∷ rest) = (same_field kind f.kind && (f.row == 0)) && row_goes_on n kind rest

-- after the first modifiable of a row come the others
abbrev pub row_whole : ℕ → FieldKind → List FieldInfo → Bool
row_whole zero kind rest = true
row_whole (suc n) kind rest = is_cell (Some kind) && row_goes_on n kind rest

unfoldable pub rows_ok : List FieldInfo → Bool
rows_ok [] = true
rows_ok (f ∷ rest) = row_whole f.row f.kind rest && rows_ok rest

-- no struct has more than 255 fields, and rows are whole
unfoldable pub structs_ok : List StructInfo → List StructInfo → Bool
structs_ok structs [] = true
structs_ok structs (s ∷ rest) =
    (nat_le (length s.fields) 255 && (fields_ok structs s.fields && rows_ok s.fields)) && structs_ok structs rest

unfoldable pub is_prefix : List Kind → List Kind → Bool
is_prefix [] kinds = true
is_prefix (p ∷ ps) (k ∷ ks) = same_kind p k && is_prefix ps ks
is_prefix (p ∷ ps) [] = false

-- the entry unit is one of the function, and its parameters are among the function's
abbrev pub entry_ok : ℕ → ℕ → Option Unit → Bool
entry_ok f params None = false
entry_ok f params (Some unit) = unit.function == f && below params unit.params

abbrev pub is_empty : List Kind → Bool
is_empty [] = true
is_empty (kind ∷ kinds) = false

-- the function of this number, and the kinds of its variables
abbrev pub function_ok : Code → ℕ → FunctionCode → List Kind → Bool
function_ok code f (CoreFunction name entry params) kinds =
    (is_prefix params kinds && kinds_ok code.structs kinds) && entry_ok f (length params) (slice_get code.units entry.0)
function_ok code f (InitFunction name s params body) kinds =
    (is_empty kinds && kinds_ok code.structs params)
    && (nat_lt s (length code.structs) && stmts_ok code.structs params (replicate (length params) true) s body)

-- one item of kinds for each function, from a number on
unfoldable pub functions_ok : Code → ℕ → List FunctionCode → List (List Kind) → Bool
functions_ok code f [] [] = true
functions_ok code f (function ∷ functions) (ks ∷ kinds) =
    function_ok code f function ks && functions_ok code (f + 1) functions kinds
functions_ok code f [] (ks ∷ kinds) = false
functions_ok code f (function ∷ functions) [] = false

unfoldable pub valid : Code → Bool
valid code =
    structs_ok code.structs code.structs
    && (functions_ok code 0 code.functions code.kinds && units_ok code code.units)
