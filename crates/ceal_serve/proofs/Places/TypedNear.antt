-- Where a tree is near, so is a program that agrees with it.
use Rattle.std.proofs.Common.{ℕ, List, [], ◌∷◌, subst, sym, arith}
use Rattle.ceal_base.specs.declared.fault.Span.{Span}
use Rattle.ceal_base.specs.declared.syntax.Entry.{Entry}
use Rattle.ceal_base.specs.declared.syntax.Entry.TheVariants.{Struct, Function}
use Rattle.ceal_base.specs.declared.syntax.Expr.{Expr}
use Rattle.ceal_base.specs.declared.syntax.ExprForm.TheBlock.{Row_of-Expr, end_of-Expr, more_of-Expr}
use Rattle.ceal_base.specs.declared.syntax.ExprForm.{ExprForm, Num, Null, Var, Own, Unary', Binary', Field', Address', Pick'}
use Rattle.ceal_base.specs.declared.syntax.Stmt.{Stmt, Declare, Assign, SetField, Write, Call, If', While', Return, Break, Continue}
use Rattle.ceal_base.specs.declared.syntax.Stmt.{Row_of-Stmt, end_of-Stmt, more_of-Stmt}
use Rattle.ceal_base.specs.declared.syntax.Tree.{Tree}
use Rattle.ceal_base.specs.declared.syntax.Value.{Value}
use Rattle.ceal_base.specs.declared.syntax.Value.TheVariants.{Plain, Read, Alloc, ModrefInt, Modref}
use Rattle.ceal_base.specs.declared.typed.StructInfo.{StructInfo}
use Rattle.ceal_base.specs.declared.typed.Typed.{Typed}
use Rattle.ceal_base.specs.declared.typed.TypedExpr.{TypedExpr}
use Rattle.ceal_base.specs.declared.typed.TypedForm.TheBlock.{hidden-the_row-TypedExpr-0, shape-the_row-TypedExpr-0}
use Rattle.ceal_base.specs.declared.typed.TypedForm.{TypedForm, Num as NumForm, Null as NullForm, Var as VarForm, Own as OwnForm}
use Rattle.ceal_base.specs.declared.typed.TypedForm.TheViews as typed
use Rattle.ceal_base.specs.declared.typed.TypedFunction.{TypedFunction}
use Rattle.ceal_base.specs.declared.typed.TypedStmt.TheBlock.{hidden-the_row-TypedStmt-0, shape-the_row-TypedStmt-0}
use Rattle.ceal_base.specs.declared.typed.TypedStmt.{TypedStmt}
use Rattle.ceal_base.specs.declared.typed.TypedValue.{TypedValue}
use Rattle.ceal_types.specs.Resolves.{Environment, IsForm, FormResolves, OperandResolves, ExprResolves, ExprsResolve, ValueResolves, in_scope}
use Rattle.ceal_types.specs.Resolves.{StmtResolves, RowResolves, StmtsResolve, FunctionResolves, EntriesResolve, Resolves}
use Rattle.ceal_serve.proofs.Places.Near.{Near, Each, FormNear, OperandNear, ExprNear, ValueNear, StmtNear, StmtsNear, EntryNear, TreeIsNear}
use Rattle.ceal_serve.proofs.Places.Near.{TypedFormNear, TypedNear, TypedValueNear, TypedStmtNear, TypedStmtsNear, FunctionNear}

-- a row has what its list has
typed-row-near : (n : ℕ) (ss : List TypedStmt) → Each (TypedStmtNear n) ss → TypedStmtsNear n (hidden-the_row-TypedStmt-0 ss)
unfolding Each TypedStmtNear hidden-the_row-TypedStmt-0 shape-the_row-TypedStmt-0 denote.Hole.Carrier.hidden
typed-row-near n [] h = tt
typed-row-near n (s ∷ ss) h = (h.0, typed-row-near n ss h.1)

module _ (n : ℕ) (p : Typed) where
  form-is : (x : TypedExpr) (at : Span) (form : TypedForm) → IsForm at form x → Near n at → TypedFormNear n form → TypedNear n x
  form-is x at form e h k = (subst (Near n) (sym e.0) h, subst (TypedFormNear n) (sym e.1) k)

  module _ (scope : Environment) where
    mutual
      unfolding FormResolves FormNear TypedFormNear hidden-the_row-TypedExpr-0 shape-the_row-TypedExpr-0 denote.Hole.Carrier.hidden

      form-typed : (at : Span) (form : ExprForm) (x : TypedExpr) → Near n at → FormNear n form → FormResolves p scope at form x → TypedNear n x
      form-typed at (Num v) x s h r = form-is x at (NumForm v) r s tt
      form-typed at Null x s h r = form-is x at NullForm r s tt
      form-typed at (Var name) x s h r = form-is x at (VarForm r.0) r.2 s tt
      form-typed at Own x s h r = form-is x at OwnForm r s tt
      form-typed at (Unary' op _ a) x s h r = form-is x at (typed.Unary op r.0) r.2 s (operand-typed a r.0 h r.1)
      form-typed at (Binary' op sign _ a _ b) x s h r =
          form-is x at (typed.Binary op sign r.0 r.1) r.5 s (operand-typed a r.0 h.1 r.3, operand-typed b r.1 h.2 r.4)
      form-typed at (Field' _ a name) x s h r = form-is x at (typed.Field r.0 r.1 r.2) r.6 s (operand-typed a r.0 h.0 r.4)
      form-typed at (Address' _ (more_of-Expr span (Field' _ a name) rest)) x s h r = form-is x at (typed.Address r.0 r.1 r.2) r.5 s (operand-typed a r.0 h.1.0 r.3)
      form-typed at (Address' _ a) x s h r = absurd r
      form-typed at (Pick' _ (more_of-Expr span (Field' _ a name) rest) _ i) x s h r =
          let y = operand-typed a r.0 h.0.1.0 r.6 in
          let w = form-is r.2 at (typed.Address r.0 r.3 r.4) r.9 s y in
          form-is x at (typed.Binary _ name.span r.2 r.1) r.10 s (w, operand-typed i r.1 h.1 r.7)
      form-typed at (Pick' _ a _ i) x s h r = absurd r

      operand-typed : {k : _} (a : Row_of-Expr k) (x : TypedExpr) → OperandNear n a → OperandResolves p scope a x → TypedNear n x
      operand-typed end_of-Expr x h r = form-is x (record { from = 0; to = 0 }) NullForm r (omega arith) tt
      operand-typed (more_of-Expr span form rest) x h r = form-typed span form x h.0 h.1 r

    expr-typed : (e : Expr) (x : TypedExpr) → ExprNear n e → ExprResolves p scope e x → TypedNear n x
    expr-typed e x h r = form-typed e.span e.form x h.0 h.1 r

    exprs-typed : (es : List Expr) (xs : List TypedExpr) → Each (ExprNear n) es → ExprsResolve p scope es xs → Each (TypedNear n) xs
    unfolding Each
    exprs-typed [] [] h r = tt
    exprs-typed [] (x ∷ xs) h r = absurd r
    exprs-typed (e ∷ es) [] h r = absurd r
    exprs-typed (e ∷ es) (x ∷ xs) h r = (expr-typed e x h.0 r.0, exprs-typed es xs h.1 r.1)

    value-typed : (v : Value) (w : TypedValue) → ValueNear n v → ValueResolves p scope v w → TypedValueNear n w
    value-typed (Plain e) w h r = subst (TypedValueNear n) (sym r.2) (expr-typed e r.0 h r.1)
    value-typed (Read at e) w h r = subst (TypedValueNear n) (sym r.2) (expr-typed e r.0 h.1 r.1)
    value-typed (Alloc at structure name args) w h r = subst (TypedValueNear n) (sym r.6) (h.2, exprs-typed args r.2 h.3 r.5)
    value-typed (ModrefInt at) w h r = subst (TypedValueNear n) (sym r) tt
    value-typed (Modref at structure) w h r = subst (TypedValueNear n) (sym r.2) tt

  mutual
    unfolding StmtResolves StmtNear TypedStmtNear typed-row-near Each

    stmt-typed : (scope : Environment) (s : Stmt) (t : TypedStmt) → StmtNear n s → StmtResolves p scope s t → TypedStmtNear n t
    stmt-typed scope (Declare at form name value) t h r = subst (TypedStmtNear n) (sym r.6) (h.0, value-typed scope value r.2 h.3 r.5)
    stmt-typed scope (Assign name value) t h r = subst (TypedStmtNear n) (sym r.4) (h.0, value-typed scope value r.1 h.1 r.3)
    stmt-typed scope (SetField at left name e) t h r =
        subst (TypedStmtNear n) (sym r.8) (h.0, expr-typed scope left r.0 h.1 r.5, expr-typed scope e r.4 h.3 r.7)
    stmt-typed scope (Write at place e) t h r = subst (TypedStmtNear n) (sym r.4) (h.0, expr-typed scope place r.0 h.1 r.2, expr-typed scope e r.1 h.2 r.3)
    stmt-typed scope (Call name args) t h r = subst (TypedStmtNear n) (sym r.4) (h.0, exprs-typed scope args r.1 h.1 r.3)
    stmt-typed scope (If' at test _ first _ second) t h r =
        subst (TypedStmtNear n) (sym r.6) (
          h.0,
          expr-typed scope test r.0 h.1 r.3,
          typed-row-near n r.1 (row-typed scope first r.1 h.2 r.4),
          typed-row-near n r.2 (row-typed scope second r.2 h.3 r.5),
        )
    stmt-typed scope (While' at test _ body) t h r =
        subst (TypedStmtNear n) (sym r.4) (h.0, expr-typed scope test r.0 h.1 r.2, typed-row-near n r.1 (row-typed scope body r.1 h.2 r.3))
    stmt-typed scope (Return at) t h r = subst (TypedStmtNear n) (sym r) h
    stmt-typed scope (Break at) t h r = subst (TypedStmtNear n) (sym r) h
    stmt-typed scope (Continue at) t h r = subst (TypedStmtNear n) (sym r) h

    row-typed : (scope : Environment) {k : _} (ss : Row_of-Stmt k) (ts : List TypedStmt) → StmtsNear n ss → RowResolves p scope ss ts → Each (TypedStmtNear n) ts
    row-typed scope end_of-Stmt [] h r = tt
    row-typed scope end_of-Stmt (t ∷ ts) h r = absurd r
    row-typed scope (more_of-Stmt s rest) [] h r = absurd r
    row-typed scope (more_of-Stmt s rest) (t ∷ ts) h r = (stmt-typed scope s t h.0 r.0, row-typed (in_scope scope s t) rest ts h.1 r.1)

  body-typed : (scope : Environment) (ss : List Stmt) (ts : List TypedStmt) → Each (StmtNear n) ss → StmtsResolve p scope ss ts → Each (TypedStmtNear n) ts
  unfolding Each
  body-typed scope [] [] h r = tt
  body-typed scope [] (t ∷ ts) h r = absurd r
  body-typed scope (s ∷ ss) [] h r = absurd r
  body-typed scope (s ∷ ss) (t ∷ ts) h r = (stmt-typed scope s t h.0 r.0, body-typed (in_scope scope s t) ss ts h.1 r.1)

  entries-typed : (es : List Entry) (structs : List StructInfo) (fs : List TypedFunction) → Each (EntryNear n) es → EntriesResolve p es structs fs → Each (FunctionNear n) fs
  unfolding Each
  entries-typed [] [] [] h r = tt
  entries-typed [] [] (g ∷ fs) h r = absurd r
  entries-typed [] (t ∷ structs) fs h r = absurd r
  entries-typed (Struct s ∷ es) [] fs h r = absurd r
  entries-typed (Struct s ∷ es) (t ∷ structs) fs h r = entries-typed es structs fs h.1 r.1
  entries-typed (Function f ∷ es) structs [] h r = absurd r
  entries-typed (Function f ∷ es) structs (g ∷ fs) h r =
      let k : FunctionResolves p f g = r.0 in
      ((body-typed _ f.body g.body h.0.3 k.body, subst (Near n) (sym k.close) h.0.4), entries-typed es structs fs h.1 r.1)

pub program-near : (n : ℕ) (tree : Tree) (p : Typed) → TreeIsNear n tree → Resolves tree p → Each (FunctionNear n) p.functions
program-near n tree p h r = entries-typed n p tree.entries p.structs p.functions h r
