-- The rows of modifiables that code picks from: a property of each, by its length and the expression that stands for
-- it.
use Rattle.std.proofs.Common.{ℕ, Option, Some, None, List, [], ◌∷◌, slice_get}
use Rattle.std.specs.Prelude.{⊤}
use Rattle.ceal_base.specs.declared.operators.Binary.{Binary}
use Rattle.ceal_base.specs.declared.operators.Binary.TheVariants.{Add, Sub, Mul, Div, Rem, Less, LessEq, More, MoreEq, Same, Differ, And, Or, Pick}
use Rattle.ceal_code.specs.Program.{Code}
use Rattle.ceal_code.specs.Step.{command_at}
use Rattle.ceal_code.specs.declared.command.Cmd.{Cmd}
use Rattle.ceal_code.specs.declared.command.Cmd.TheVariants.{Move, Tick, Alloc, Modref, Write, If, Done, Tail, Read, Call}
use Rattle.ceal_code.specs.declared.expr.CodeExpr.{CodeExpr, Num as NumExpr, Null as NullExpr, Var, Unary', Binary', Field', Address', Row_of-CodeExpr, end_of-CodeExpr, more_of-CodeExpr}
use Rattle.ceal_code.specs.declared.function.FunctionCode.{FunctionCode}
use Rattle.ceal_code.specs.declared.function.FunctionCode.TheVariants.{Core as CoreFunction, Init as InitFunction}
use Rattle.ceal_code.specs.declared.function.InitStmt.{InitStmt, Set, If' as IfStmt', Row_of-InitStmt, end_of-InitStmt, more_of-InitStmt}

-- a property of each row
abbrev pub Any : ℕ → CodeExpr → Type 0
Any row a = ⊤

-- where the operator picks from a row of some length
abbrev pub IfPick : Binary → (ℕ → Type 0) → Type 0
IfPick (Pick row) T = T row
IfPick op T = ⊤

abbrev pub PicksRow : (ℕ → CodeExpr → Type 0) → ℕ → {n : _} → Row_of-CodeExpr n → Type 0
PicksRow S row end_of-CodeExpr = ⊤
PicksRow S row (more_of-CodeExpr e rest) = S row e

unfoldable mutual
  pub Picks : (ℕ → CodeExpr → Type 0) → CodeExpr → Type 0
  Picks S (NumExpr n) = ⊤
  Picks S NullExpr = ⊤
  Picks S (Var v) = ⊤
  Picks S (Unary' op _ a) = PicksOperand S a
  Picks S (Binary' op _ a _ b) = IfPick op (λ row. PicksRow S row a) × PicksOperand S a × PicksOperand S b
  Picks S (Field' _ a s field) = PicksOperand S a
  Picks S (Address' _ a s field) = PicksOperand S a

  pub PicksOperand : (ℕ → CodeExpr → Type 0) → {n : _} → Row_of-CodeExpr n → Type 0
  PicksOperand S end_of-CodeExpr = ⊤
  PicksOperand S (more_of-CodeExpr e rest) = Picks S e

unfoldable pub PicksAll : (ℕ → CodeExpr → Type 0) → List CodeExpr → Type 0
PicksAll S [] = ⊤
PicksAll S (e ∷ es) = Picks S e × PicksAll S es

abbrev pub PicksCommand : (ℕ → CodeExpr → Type 0) → Cmd → Type 0
PicksCommand S (Move v e) = Picks S e
PicksCommand S Tick = ⊤
PicksCommand S (Alloc v f args) = PicksAll S args
PicksCommand S (Modref v shape) = ⊤
PicksCommand S (Write p e) = Picks S p × Picks S e
PicksCommand S (If test first second) = Picks S test
PicksCommand S Done = ⊤
PicksCommand S (Tail w args) = PicksAll S args
PicksCommand S (Read v p w args) = Picks S p × PicksAll S args
PicksCommand S (Call f args w rest) = PicksAll S args × PicksAll S rest

unfoldable mutual
  pub PicksStmt : (ℕ → CodeExpr → Type 0) → InitStmt → Type 0
  PicksStmt S (Set field e) = Picks S e
  PicksStmt S (IfStmt' test _ first _ second) = Picks S test × PicksStmts S first × PicksStmts S second

  pub PicksStmts : (ℕ → CodeExpr → Type 0) → {n : _} → Row_of-InitStmt n → Type 0
  PicksStmts S end_of-InitStmt = ⊤
  PicksStmts S (more_of-InitStmt stmt rest) = PicksStmt S stmt × PicksStmts S rest

unfoldable pub PicksBody : (ℕ → CodeExpr → Type 0) → List InitStmt → Type 0
PicksBody S [] = ⊤
PicksBody S (stmt ∷ rest) = PicksStmt S stmt × PicksBody S rest

abbrev pub PicksFunction : (ℕ → CodeExpr → Type 0) → Option FunctionCode → Type 0
PicksFunction S None = ⊤
PicksFunction S (Some (CoreFunction name entry params)) = ⊤
PicksFunction S (Some (InitFunction name s params body)) = PicksBody S body

-- so it is in each command and in each initialiser of the code
pub record PicksCode (S : ℕ → CodeExpr → Type 0) (code : Code) : Type 0 where
  pub commands : (u i : ℕ) → PicksCommand S (command_at code u i)
  pub functions : (f : ℕ) → PicksFunction S (slice_get code.functions f)

any-op : (op : Binary) {n : _} (row : Row_of-CodeExpr n) → IfPick op (λ length. PicksRow Any length row)
any-op (Pick length) end_of-CodeExpr = tt
any-op (Pick length) (more_of-CodeExpr e rest) = tt
any-op Add row = tt
any-op Sub row = tt
any-op Mul row = tt
any-op Div row = tt
any-op Rem row = tt
any-op Less row = tt
any-op LessEq row = tt
any-op More row = tt
any-op MoreEq row = tt
any-op Same row = tt
any-op Differ row = tt
any-op And row = tt
any-op Or row = tt

mutual
  unfolding Picks

  any-picks : (e : CodeExpr) → Picks Any e
  any-picks (NumExpr n) = tt
  any-picks NullExpr = tt
  any-picks (Var v) = tt
  any-picks (Unary' op _ a) = any-operand a
  any-picks (Binary' op _ a _ b) = (any-op op a, any-operand a, any-operand b)
  any-picks (Field' _ a s field) = any-operand a
  any-picks (Address' _ a s field) = any-operand a

  any-operand : {n : _} (row : Row_of-CodeExpr n) → PicksOperand Any row
  any-operand end_of-CodeExpr = tt
  any-operand (more_of-CodeExpr e rest) = any-picks e

any-all : (es : List CodeExpr) → PicksAll Any es
unfolding PicksAll
any-all [] = tt
any-all (e ∷ es) = (any-picks e, any-all es)

any-command : (c : Cmd) → PicksCommand Any c
any-command (Move v e) = any-picks e
any-command Tick = tt
any-command (Alloc v f args) = any-all args
any-command (Modref v shape) = tt
any-command (Write p e) = (any-picks p, any-picks e)
any-command (If test first second) = any-picks test
any-command Done = tt
any-command (Tail w args) = any-all args
any-command (Read v p w args) = (any-picks p, any-all args)
any-command (Call f args w rest) = (any-all args, any-all rest)

mutual
  unfolding PicksStmt

  any-stmt : (stmt : InitStmt) → PicksStmt Any stmt
  any-stmt (Set field e) = any-picks e
  any-stmt (IfStmt' test _ first _ second) = (any-picks test, any-stmts first, any-stmts second)

  any-stmts : {n : _} (row : Row_of-InitStmt n) → PicksStmts Any row
  any-stmts end_of-InitStmt = tt
  any-stmts (more_of-InitStmt stmt rest) = (any-stmt stmt, any-stmts rest)

any-body : (stmts : List InitStmt) → PicksBody Any stmts
unfolding PicksBody
any-body [] = tt
any-body (stmt ∷ rest) = (any-stmt stmt, any-body rest)

any-function : (f : Option FunctionCode) → PicksFunction Any f
any-function None = tt
any-function (Some (CoreFunction name entry params)) = tt
any-function (Some (InitFunction name s params body)) = any-body body

-- every code has the property that each row has
pub any-code : (code : Code) → PicksCode Any code
any-code code = record { commands = λ u i. any-command (command_at code u i); functions = λ f. any-function (slice_get code.functions f) }
