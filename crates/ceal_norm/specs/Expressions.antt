-- Expressions and initialisers of a program as those of trace code.
use Rattle.std.specs.Prelude.{ℕ, List, [], ◌∷◌, ◌++◌}
use Rattle.ceal_base.specs.declared.typed.TypedExpr.{TypedExpr}
use Rattle.ceal_base.specs.declared.typed.TypedForm.TheBlock.{Row_of-TypedExpr, end_of-TypedExpr, more_of-TypedExpr}
use Rattle.ceal_base.specs.declared.typed.TypedForm.{TypedForm, Num as NumForm, Null as NullForm, Var as VarForm, Own}
use Rattle.ceal_base.specs.declared.typed.TypedForm.{Unary', Binary', Field', Address'}
use Rattle.ceal_base.specs.declared.typed.TypedStmt.{TypedStmt, SetField, If', Row_of-TypedStmt, end_of-TypedStmt}
use Rattle.ceal_base.specs.declared.typed.TypedStmt.{more_of-TypedStmt}
use Rattle.ceal_code.specs.declared.expr.CodeExpr.{CodeExpr, Num, Null, Var}
use Rattle.ceal_code.specs.declared.expr.CodeExpr.TheViews as code
use Rattle.ceal_code.specs.declared.expr.VarId.{VarId}
use Rattle.ceal_code.specs.declared.function.InitStmt.{InitStmt, Set}
use Rattle.ceal_code.specs.declared.function.InitStmt.TheViews as init

-- the variable with this number
abbrev pub variable : ℕ → VarId
variable n = record { 0 = n }

-- an expression of this form; `self` occurs in no expression that trace code has
unfoldable mutual
  pub form_code : TypedForm → CodeExpr
  form_code (NumForm n) = Num n
  form_code NullForm = Null
  form_code (VarForm n) = Var (variable n)
  form_code Own = Null
  form_code (Unary' op _ a) = code.Unary op (operand_code a)
  form_code (Binary' op at _ a _ b) = code.Binary op (operand_code a) (operand_code b)
  form_code (Field' _ a s field) = code.Field (operand_code a) s field
  form_code (Address' _ a s field) = code.Address (operand_code a) s field

  -- the expression of an operand
  pub operand_code : {n : _} → Row_of-TypedExpr n → CodeExpr
  operand_code end_of-TypedExpr = Null
  operand_code (more_of-TypedExpr span kind form rest) = form_code form

-- an expression of the program as one of trace code
abbrev pub expr_code : TypedExpr → CodeExpr
expr_code e = form_code e.form

-- the statements of an initialiser: field assignments and conditions
unfoldable mutual
  pub init_code : TypedStmt → List InitStmt
  init_code (SetField at left s field e) = Set field (expr_code e) ∷ []
  init_code (If' at test _ first _ second) = init.If (expr_code test) (row_init_code first) (row_init_code second) ∷ []
  init_code _ = []

  -- the statements of an initialiser, of a row
  pub row_init_code : {n : _} → Row_of-TypedStmt n → List InitStmt
  row_init_code end_of-TypedStmt = []
  row_init_code (more_of-TypedStmt s rest) = init_code s ++ row_init_code rest

-- the statements of an initialiser, of a list
unfoldable pub all_init_code : List TypedStmt → List InitStmt
all_init_code [] = []
all_init_code (s ∷ rest) = init_code s ++ all_init_code rest
