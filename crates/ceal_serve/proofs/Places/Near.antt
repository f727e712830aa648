-- The places of a tree, of faults, and of a program as far as its faults are there. They are near where they are in a
-- text of n bytes, or at its end.
use Rattle.std.proofs.Common.{◌≤◌, ℕ, Bool, true, false, Option, Some, None, List, [], ◌∷◌, ◌++◌, if◌then◌else◌}
use Rattle.ceal_base.specs.declared.fault.Fault.{Fault}
use Rattle.ceal_base.specs.declared.fault.FaultCode.{FaultCode}
use Rattle.ceal_base.specs.declared.fault.Span.{Span}
use Rattle.ceal_base.specs.declared.syntax.Entry.{Entry}
use Rattle.ceal_base.specs.declared.syntax.Entry.TheVariants.{Struct, Function}
use Rattle.ceal_base.specs.declared.syntax.Expr.{Expr}
use Rattle.ceal_base.specs.declared.syntax.ExprForm.TheBlock.{Row_of-Expr, end_of-Expr, more_of-Expr}
use Rattle.ceal_base.specs.declared.syntax.ExprForm.{ExprForm, Num, Null, Var, Own, Unary', Binary', Field', Address', Pick'}
use Rattle.ceal_base.specs.declared.syntax.FieldDecl.{FieldDecl}
use Rattle.ceal_base.specs.declared.syntax.Ident.{Ident}
use Rattle.ceal_base.specs.declared.syntax.Stmt.{Stmt, Declare, Assign, SetField, Write, Call, If', While', Return, Break, Continue}
use Rattle.ceal_base.specs.declared.syntax.Stmt.{Row_of-Stmt, end_of-Stmt, more_of-Stmt}
use Rattle.ceal_base.specs.declared.syntax.Tree.{Tree}
use Rattle.ceal_base.specs.declared.syntax.TypeForm.{TypeForm}
use Rattle.ceal_base.specs.declared.syntax.TypeForm.TheVariants as forms
use Rattle.ceal_base.specs.declared.syntax.Value.{Value}
use Rattle.ceal_base.specs.declared.syntax.Value.TheVariants.{Plain, Read, Alloc, ModrefInt, Modref}
use Rattle.ceal_base.specs.declared.typed.TypedExpr.{TypedExpr}
use Rattle.ceal_base.specs.declared.typed.TypedForm as typed_form
use Rattle.ceal_base.specs.declared.typed.TypedForm.TheBlock.{Row_of-TypedExpr, end_of-TypedExpr, more_of-TypedExpr}
use Rattle.ceal_base.specs.declared.typed.TypedForm.{TypedForm}
use Rattle.ceal_base.specs.declared.typed.TypedFunction.{TypedFunction}
use Rattle.ceal_base.specs.declared.typed.TypedStmt as typed
use Rattle.ceal_base.specs.declared.typed.TypedStmt.{TypedStmt, Row_of-TypedStmt, end_of-TypedStmt, more_of-TypedStmt}
use Rattle.ceal_base.specs.declared.typed.TypedValue.{TypedValue}
use Rattle.ceal_base.specs.declared.typed.TypedValue.TheVariants as values

abbrev pub Near : ℕ → Span → Type 0
Near n at = at.from ≤ n

-- so is each item of a list
unfoldable pub Each : {A : Type 0} → (A → Type 0) → List A → Type 0
Each P [] = Unit {0}
Each P (x ∷ xs) = P x × Each P xs

pub each-append : {A : Type 0} (P : A → Type 0) (xs ys : List A) → Each P xs → Each P ys → Each P (xs ++ ys)
unfolding Each
each-append P [] ys h k = k
each-append P (x ∷ xs) ys h k = (h.0, each-append P xs ys h.1 k)

abbrev pub FaultNear : ℕ → Fault → Type 0
FaultNear n f = Near n f.span

-- these faults are near
abbrev pub AllNear : ℕ → List Fault → Type 0
AllNear n fs = Each (FaultNear n) fs

module _ (n : ℕ) where
  pub none : AllNear n []
  unfolding Each
  none = tt

  pub both : (a b : List Fault) → AllNear n a → AllNear n b → AllNear n (a ++ b)
  both a b h k = each-append (FaultNear n) a b h k

  pub one-near : (code : FaultCode) (at : Span) → Near n at → AllNear n (record { code = code; span = at } ∷ [])
  unfolding Each
  one-near code at h = (h, tt)

  pub unless-near : (b : Bool) (code : FaultCode) (at : Span) → Near n at → AllNear n (if b then [] else record { code = code; span = at } ∷ [])
  unless-near true code at h = none
  unless-near false code at h = one-near code at h

unfoldable mutual
  pub FormNear : ℕ → ExprForm → Type 0
  FormNear n (Num v) = Unit {0}
  FormNear n Null = Unit {0}
  FormNear n (Var x) = Near n x.span
  FormNear n Own = Unit {0}
  FormNear n (Unary' op _ a) = OperandNear n a
  FormNear n (Binary' op at _ a _ b) = Near n at × OperandNear n a × OperandNear n b
  FormNear n (Field' _ a x) = OperandNear n a × Near n x.span
  FormNear n (Address' _ a) = OperandNear n a
  FormNear n (Pick' _ a _ b) = OperandNear n a × OperandNear n b

  pub OperandNear : ℕ → {k : _} → Row_of-Expr k → Type 0
  OperandNear n end_of-Expr = Unit {0}
  OperandNear n (more_of-Expr span form rest) = Near n span × FormNear n form

abbrev pub ExprNear : ℕ → Expr → Type 0
ExprNear n e = Near n e.span × FormNear n e.form

abbrev pub TypeNear : ℕ → TypeForm → Type 0
TypeNear n forms.Int = Unit {0}
TypeNear n (forms.Ptr x) = Near n x.span
TypeNear n forms.ModInt = Unit {0}
TypeNear n (forms.ModPtr x) = Near n x.span
TypeNear n forms.CellInt = Unit {0}
TypeNear n (forms.CellPtr x) = Near n x.span
TypeNear n (forms.CellRow row) = Unit {0}
TypeNear n (forms.CellPtrRow x row) = Near n x.span

abbrev pub ValueNear : ℕ → Value → Type 0
ValueNear n (Plain e) = ExprNear n e
ValueNear n (Read at e) = Near n at × ExprNear n e
ValueNear n (Alloc at shape x args) = Near n at × Near n shape.span × Near n x.span × Each (ExprNear n) args
ValueNear n (ModrefInt at) = Near n at
ValueNear n (Modref at shape) = Near n at × Near n shape.span

unfoldable mutual
  pub StmtNear : ℕ → Stmt → Type 0
  StmtNear n (Declare at form x value) = Near n at × TypeNear n form × Near n x.span × ValueNear n value
  StmtNear n (Assign x value) = Near n x.span × ValueNear n value
  StmtNear n (SetField at left x e) = Near n at × ExprNear n left × Near n x.span × ExprNear n e
  StmtNear n (Write at place e) = Near n at × ExprNear n place × ExprNear n e
  StmtNear n (Call x args) = Near n x.span × Each (ExprNear n) args
  StmtNear n (If' at test _ first _ second) = Near n at × ExprNear n test × StmtsNear n first × StmtsNear n second
  StmtNear n (While' at test _ body) = Near n at × ExprNear n test × StmtsNear n body
  StmtNear n (Return at) = Near n at
  StmtNear n (Break at) = Near n at
  StmtNear n (Continue at) = Near n at

  pub StmtsNear : ℕ → {k : _} → Row_of-Stmt k → Type 0
  StmtsNear n end_of-Stmt = Unit {0}
  StmtsNear n (more_of-Stmt s rest) = StmtNear n s × StmtsNear n rest

abbrev pub DeclNear : ℕ → FieldDecl → Type 0
DeclNear n d = TypeNear n d.form × Near n d.name.span

abbrev pub OwnNear : ℕ → Option Ident → Type 0
OwnNear n None = Unit {0}
OwnNear n (Some x) = Near n x.span

abbrev pub EntryNear : ℕ → Entry → Type 0
EntryNear n (Struct s) = Near n s.name.span × Each (DeclNear n) s.fields
EntryNear n (Function f) =
    OwnNear n f.initialiser × Near n f.name.span × Each (DeclNear n) f.params × Each (StmtNear n) f.body × Near n f.close

abbrev pub TreeIsNear : ℕ → Tree → Type 0
TreeIsNear n tree = Each (EntryNear n) tree.entries

unfoldable mutual
  pub TypedFormNear : ℕ → TypedForm → Type 0
  TypedFormNear n (typed_form.Num v) = Unit {0}
  TypedFormNear n typed_form.Null = Unit {0}
  TypedFormNear n (typed_form.Var x) = Unit {0}
  TypedFormNear n typed_form.Own = Unit {0}
  TypedFormNear n (typed_form.Unary' op _ a) = TypedOperandNear n a
  TypedFormNear n (typed_form.Binary' op at _ a _ b) = TypedOperandNear n a × TypedOperandNear n b
  TypedFormNear n (typed_form.Field' _ a s field) = TypedOperandNear n a
  TypedFormNear n (typed_form.Address' _ a s field) = TypedOperandNear n a

  pub TypedOperandNear : ℕ → {k : _} → Row_of-TypedExpr k → Type 0
  TypedOperandNear n end_of-TypedExpr = Unit {0}
  TypedOperandNear n (more_of-TypedExpr span kind form rest) = Near n span × TypedFormNear n form

abbrev pub TypedNear : ℕ → TypedExpr → Type 0
TypedNear n x = Near n x.span × TypedFormNear n x.form

abbrev pub TypedValueNear : ℕ → TypedValue → Type 0
TypedValueNear n (values.Plain x) = TypedNear n x
TypedValueNear n (values.Read at x) = TypedNear n x
TypedValueNear n (values.Alloc at shape f name args) = Near n name × Each (TypedNear n) args
TypedValueNear n (values.ModrefInt at) = Unit {0}
TypedValueNear n (values.Modref at s) = Unit {0}

unfoldable mutual
  pub TypedStmtNear : ℕ → TypedStmt → Type 0
  TypedStmtNear n (typed.Declare at x kind value) = Near n at × TypedValueNear n value
  TypedStmtNear n (typed.Assign at x value) = Near n at × TypedValueNear n value
  TypedStmtNear n (typed.SetField at left s field e) = Near n at × TypedNear n left × TypedNear n e
  TypedStmtNear n (typed.Write at place e) = Near n at × TypedNear n place × TypedNear n e
  TypedStmtNear n (typed.Call at f args) = Near n at × Each (TypedNear n) args
  TypedStmtNear n (typed.If' at test _ first _ second) = Near n at × TypedNear n test × TypedStmtsNear n first × TypedStmtsNear n second
  TypedStmtNear n (typed.While' at test _ body) = Near n at × TypedNear n test × TypedStmtsNear n body
  TypedStmtNear n (typed.Return at) = Near n at
  TypedStmtNear n (typed.Break at) = Near n at
  TypedStmtNear n (typed.Continue at) = Near n at

  pub TypedStmtsNear : ℕ → {k : _} → Row_of-TypedStmt k → Type 0
  TypedStmtsNear n end_of-TypedStmt = Unit {0}
  TypedStmtsNear n (more_of-TypedStmt s rest) = TypedStmtNear n s × TypedStmtsNear n rest

abbrev pub FunctionNear : ℕ → TypedFunction → Type 0
FunctionNear n f = Each (TypedStmtNear n) f.body × Near n f.close
