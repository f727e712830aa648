-- The faults of usage of a program, in the order of the walk of its bodies: a statement's own fault first, then those
-- of its expressions, then those of the statements in it.
use Rattle.std.specs.Prelude.{Bool, true, false, Option, Some, None, is_some, is_none, List, [], ◌++◌, slice_get}
use Rattle.std.specs.Prelude.{if◌then◌else◌}
use Rattle.ceal_base.specs.Faults.{one, faults_of_each}
use Rattle.ceal_base.specs.declared.fault.Fault.{Fault}
use Rattle.ceal_base.specs.declared.fault.FaultCode.TheVariants.{U1, U2, U3, U4, U5, U6}
use Rattle.ceal_base.specs.declared.fault.Span.{Span}
use Rattle.ceal_base.specs.declared.typed.Typed.{Typed}
use Rattle.ceal_base.specs.declared.typed.TypedExpr.{TypedExpr}
use Rattle.ceal_base.specs.declared.typed.TypedForm.TheBlock.{Row_of-TypedExpr, end_of-TypedExpr, more_of-TypedExpr}
use Rattle.ceal_base.specs.declared.typed.TypedForm.{TypedForm, Num, Null, Var, Own, Unary', Binary', Field', Address'}
use Rattle.ceal_base.specs.declared.typed.TypedFunction.{TypedFunction}
use Rattle.ceal_base.specs.declared.typed.TypedStmt.{TypedStmt, Declare, Assign, SetField, Write, Call, If', While'}
use Rattle.ceal_base.specs.declared.typed.TypedStmt.{Return, Break, Continue}
use Rattle.ceal_base.specs.declared.typed.TypedStmt.{Row_of-TypedStmt, end_of-TypedStmt, more_of-TypedStmt}
use Rattle.ceal_base.specs.declared.typed.TypedValue.{TypedValue}
use Rattle.ceal_base.specs.declared.typed.TypedValue.TheVariants.{Plain, Read, Alloc, ModrefInt, Modref}

-- U3 at each `self` in an expression of this form, from left to right
unfoldable mutual
  pub form_mentions : Span → TypedForm → List Fault
  form_mentions at (Num n) = []
  form_mentions at Null = []
  form_mentions at (Var n) = []
  form_mentions at Own = one U3 at
  form_mentions at (Unary' op _ a) = operand_mentions a
  form_mentions at (Binary' op sign _ a _ b) = operand_mentions a ++ operand_mentions b
  form_mentions at (Field' _ a s field) = operand_mentions a
  form_mentions at (Address' _ a s field) = operand_mentions a

  -- U3 at each `self` in an operand
  pub operand_mentions : {n : _} → Row_of-TypedExpr n → List Fault
  operand_mentions end_of-TypedExpr = []
  operand_mentions (more_of-TypedExpr span kind form rest) = form_mentions span form

-- U3 at each `self` in an expression
abbrev pub mentions : TypedExpr → List Fault
mentions e = form_mentions e.span e.form

-- U3 at each `self` in a value
abbrev pub value_mentions : TypedValue → List Fault
value_mentions (Plain e) = mentions e
value_mentions (Read at e) = mentions e
value_mentions (Alloc at shape f name args) = faults_of_each mentions args
value_mentions (ModrefInt at) = []
value_mentions (Modref at s) = []

-- whether there is such a function, and it is a core function
abbrev pub is_core : Option TypedFunction → Bool
is_core None = false
is_core (Some f) = is_none f.initialiser

-- whether there is such a function, and it is an initialiser
abbrev pub is_initialiser : Option TypedFunction → Bool
is_initialiser None = false
is_initialiser (Some f) = is_some f.initialiser

-- U5 at the function's name, where a core function's `alloc` names no initialiser
abbrev pub value_faults : List TypedFunction → TypedValue → List Fault
value_faults fs (Plain e) = []
value_faults fs (Read at e) = []
value_faults fs (Alloc at shape f name args) = if is_initialiser (slice_get fs f) then [] else one U5 name
value_faults fs (ModrefInt at) = []
value_faults fs (Modref at s) = []

-- U6 at a `break` or `continue` that is in no loop
abbrev pub loop_faults : Bool → Span → List Fault
loop_faults looped at = if looped then [] else one U6 at

-- a statement of a core function: it writes no field, calls only core functions, and is a `break` or `continue` only in
-- a loop; the truth value says whether the statement is in one
unfoldable mutual
  pub core_faults : List TypedFunction → Bool → TypedStmt → List Fault
  core_faults fs looped (Declare at n kind value) = value_faults fs value
  core_faults fs looped (Assign at n value) = value_faults fs value
  core_faults fs looped (SetField at left s field e) = one U1 at
  core_faults fs looped (Write at place e) = []
  core_faults fs looped (Call at f args) = if is_core (slice_get fs f) then [] else one U4 at
  core_faults fs looped (If' at test _ first _ second) =
      row_core_faults fs looped first ++ row_core_faults fs looped second
  core_faults fs looped (While' at test _ body) = row_core_faults fs true body
  core_faults fs looped (Return at) = []
  core_faults fs looped (Break at) = loop_faults looped at
  core_faults fs looped (Continue at) = loop_faults looped at

  -- the faults of the statements of a row, in a core function
  pub row_core_faults : List TypedFunction → Bool → {n : _} → Row_of-TypedStmt n → List Fault
  row_core_faults fs looped end_of-TypedStmt = []
  row_core_faults fs looped (more_of-TypedStmt s rest) = core_faults fs looped s ++ row_core_faults fs looped rest

-- none where the expression is `self`
abbrev pub faults_unless_own : List Fault → TypedForm → List Fault
faults_unless_own faults Own = []
faults_unless_own faults _ = faults

-- what is to the left of the last `->` of a field assignment: only `self`
abbrev pub target_faults : Span → TypedExpr → List Fault
target_faults at left = faults_unless_own (one U1 at ++ mentions left) left.form

-- a statement of an initialiser: `self->f = E` or an `if`, with `self` nowhere else
unfoldable mutual
  pub init_faults : TypedStmt → List Fault
  init_faults (Declare at n kind value) = one U2 at ++ value_mentions value
  init_faults (Assign at n value) = one U2 at ++ value_mentions value
  init_faults (SetField at left s field e) = target_faults at left ++ mentions e
  init_faults (Write at place e) = one U2 at ++ mentions place ++ mentions e
  init_faults (Call at f args) = one U2 at ++ faults_of_each mentions args
  init_faults (If' at test _ first _ second) = mentions test ++ row_init_faults first ++ row_init_faults second
  init_faults (While' at test _ body) = one U2 at ++ mentions test ++ row_init_faults body
  init_faults (Return at) = one U2 at
  init_faults (Break at) = one U2 at
  init_faults (Continue at) = one U2 at

  -- the faults of the statements of a row, in an initialiser
  pub row_init_faults : {n : _} → Row_of-TypedStmt n → List Fault
  row_init_faults end_of-TypedStmt = []
  row_init_faults (more_of-TypedStmt s rest) = init_faults s ++ row_init_faults rest

-- the faults of a function, in text order
abbrev pub function_faults : List TypedFunction → TypedFunction → List Fault
function_faults fs f = elim f.initialiser [
  | None ↦ faults_of_each (core_faults fs false) f.body
  | Some s ↦ faults_of_each init_faults f.body
]

-- the faults of a program, in the order of the walk
abbrev pub usage_faults : Typed → List Fault
usage_faults program = faults_of_each (function_faults program.functions) program.functions
