-- A program that keeps the rules of usage: fields are written only by initialisers, only on `self`, and an
-- initialiser does nothing else.
use Rattle.std.specs.Prelude.{◌≡◌, Bool, true, false, Option, Some, None, IsSome, IsNone, IsSomeAnd, List, slice_get}
use Rattle.std.specs.Prelude.{All}
use Rattle.ceal_base.specs.declared.typed.Typed.{Typed}
use Rattle.ceal_base.specs.declared.typed.TypedForm.TheBlock.{Row_of-TypedExpr, end_of-TypedExpr, more_of-TypedExpr}
use Rattle.ceal_base.specs.declared.typed.TypedForm.{TypedForm, Num, Null, Var, Own, Unary', Binary', Field', Address'}
use Rattle.ceal_base.specs.declared.typed.TypedFunction.{TypedFunction}
use Rattle.ceal_base.specs.declared.typed.TypedStmt.{TypedStmt, Declare, Assign, SetField, Write, Call, If', While'}
use Rattle.ceal_base.specs.declared.typed.TypedStmt.{Return, Break, Continue}
use Rattle.ceal_base.specs.declared.typed.TypedStmt.{Row_of-TypedStmt, end_of-TypedStmt, more_of-TypedStmt}
use Rattle.ceal_base.specs.declared.typed.TypedValue.{TypedValue}
use Rattle.ceal_base.specs.declared.typed.TypedValue.TheVariants.{Plain, Read, Alloc, ModrefInt, Modref}

-- an expression that does not mention `self`
unfoldable mutual
  pub WithoutOwn : TypedForm → Type 0
  WithoutOwn (Num n) = Unit {0}
  WithoutOwn Null = Unit {0}
  WithoutOwn (Var n) = Unit {0}
  WithoutOwn Own = ⊥
  WithoutOwn (Unary' op _ a) = OperandWithoutOwn a
  WithoutOwn (Binary' op at _ a _ b) = OperandWithoutOwn a × OperandWithoutOwn b
  WithoutOwn (Field' _ a s field) = OperandWithoutOwn a
  WithoutOwn (Address' _ a s field) = OperandWithoutOwn a

  -- an operand that does not mention `self`
  pub OperandWithoutOwn : {n : _} → Row_of-TypedExpr n → Type 0
  OperandWithoutOwn end_of-TypedExpr = Unit {0}
  OperandWithoutOwn (more_of-TypedExpr span kind form rest) = WithoutOwn form

-- the function is a core function, or an initialiser
abbrev pub IsCore : Option TypedFunction → Type 0
IsCore f = IsSomeAnd f (λ g. IsNone g.initialiser)

-- there is such a function, and it is an initialiser
abbrev pub IsInitialiser : Option TypedFunction → Type 0
IsInitialiser f = IsSomeAnd f (λ g. IsSome g.initialiser)

-- what a core function gives a variable: an `alloc` names an initialiser
abbrev pub ValueUsage : List TypedFunction → TypedValue → Type 0
ValueUsage fs (Plain e) = Unit {0}
ValueUsage fs (Read at e) = Unit {0}
ValueUsage fs (Alloc at shape f name args) = IsInitialiser (slice_get fs f)
ValueUsage fs (ModrefInt at) = Unit {0}
ValueUsage fs (Modref at s) = Unit {0}

-- a statement of a core function: no field is written, only core functions are called, and `break` and `continue`
-- are in a loop; the truth value says whether the statement is in one
unfoldable mutual
  pub CoreUsage : List TypedFunction → Bool → TypedStmt → Type 0
  CoreUsage fs looped (Declare at n kind value) = ValueUsage fs value
  CoreUsage fs looped (Assign at n value) = ValueUsage fs value
  CoreUsage fs looped (SetField at left s field e) = ⊥
  CoreUsage fs looped (Write at place e) = Unit {0}
  CoreUsage fs looped (Call at f args) = IsCore (slice_get fs f)
  CoreUsage fs looped (If' at test _ first _ second) = RowCoreUsage fs looped first × RowCoreUsage fs looped second
  CoreUsage fs looped (While' at test _ body) = RowCoreUsage fs true body
  CoreUsage fs looped (Return at) = Unit {0}
  CoreUsage fs looped (Break at) = looped ≡ true
  CoreUsage fs looped (Continue at) = looped ≡ true

  -- the rules for the statements of a row in a core function
  pub RowCoreUsage : List TypedFunction → Bool → {n : _} → Row_of-TypedStmt n → Type 0
  RowCoreUsage fs looped end_of-TypedStmt = Unit {0}
  RowCoreUsage fs looped (more_of-TypedStmt s rest) = CoreUsage fs looped s × RowCoreUsage fs looped rest

-- a statement of an initialiser: `self->f = E`, or an `if`, with `self` nowhere else
unfoldable mutual
  pub InitUsage : TypedStmt → Type 0
  InitUsage (Declare at n kind value) = ⊥
  InitUsage (Assign at n value) = ⊥
  InitUsage (SetField at left s field e) = (left.form ≡ Own) × WithoutOwn e.form
  InitUsage (Write at place e) = ⊥
  InitUsage (Call at f args) = ⊥
  InitUsage (If' at test _ first _ second) = WithoutOwn test.form × RowInitUsage first × RowInitUsage second
  InitUsage (While' at test _ body) = ⊥
  InitUsage (Return at) = ⊥
  InitUsage (Break at) = ⊥
  InitUsage (Continue at) = ⊥

  -- the rules for the statements of a row in an initialiser
  pub RowInitUsage : {n : _} → Row_of-TypedStmt n → Type 0
  RowInitUsage end_of-TypedStmt = Unit {0}
  RowInitUsage (more_of-TypedStmt s rest) = InitUsage s × RowInitUsage rest

-- the rules for a function
abbrev pub FunctionUsage : List TypedFunction → TypedFunction → Type 0
FunctionUsage fs f = elim f.initialiser [ None ↦ All (CoreUsage fs false) f.body | Some s ↦ All InitUsage f.body ]

-- The program keeps the rules of usage.
abbrev pub KeepsUsage : Typed → Type 0
KeepsUsage program = All (FunctionUsage program.functions) program.functions
