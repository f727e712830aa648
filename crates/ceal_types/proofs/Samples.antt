-- Small programs with their typed trees, or their faults.
use Rattle.std.proofs.Common.{◌≡◌, ℕ, pos, Ok, Some, None, List, [], ◌∷◌, refl}
use Rattle.std.specs.Prelude.{codes}
use Rattle.ceal_base.specs.declared.fault.FaultCode.TheVariants.{N1, N2, T2}
use Rattle.ceal_base.specs.declared.fault.Span.{Span}
use Rattle.ceal_base.specs.declared.kind.Kind.TheVariants.{Int, ModInt}
use Rattle.ceal_base.specs.declared.operators.Binary.TheVariants.{Add, Same}
use Rattle.ceal_base.specs.declared.syntax.Entry.TheVariants.{Function}
use Rattle.ceal_base.specs.declared.syntax.Expr.{Expr}
use Rattle.ceal_base.specs.declared.syntax.ExprForm.{Num, Null, Var}
use Rattle.ceal_base.specs.declared.syntax.ExprForm.TheBlock.{hidden-the_row-Expr-0, shape-the_row-Expr-0}
use Rattle.ceal_base.specs.declared.syntax.ExprForm.TheViews.{Binary}
use Rattle.ceal_base.specs.declared.syntax.Ident.{Ident}
use Rattle.ceal_base.specs.declared.syntax.Stmt.TheBlock.{hidden-the_row-Stmt-0, shape-the_row-Stmt-0}
use Rattle.ceal_base.specs.declared.syntax.Stmt.TheVariants.{Declare, Assign, Write, Call}
use Rattle.ceal_base.specs.declared.syntax.Stmt.TheViews.{If}
use Rattle.ceal_base.specs.declared.syntax.Stmt.{Stmt}
use Rattle.ceal_base.specs.declared.syntax.Tree.{Tree}
use Rattle.ceal_base.specs.declared.syntax.TypeForm.TheVariants as forms
use Rattle.ceal_base.specs.declared.syntax.Value.TheVariants.{Plain, Read}
use Rattle.ceal_base.specs.declared.typed.Typed.{Typed}
use Rattle.ceal_base.specs.declared.typed.TypedExpr.{TypedExpr}
use Rattle.ceal_base.specs.declared.typed.TypedForm.{Num as TypedNum, Var as TypedVar}
use Rattle.ceal_base.specs.declared.typed.TypedForm.TheViews as typed
use Rattle.ceal_base.specs.declared.typed.TypedStmt.TheVariants.{Declare as TypedDeclare, Write as TypedWrite}
use Rattle.ceal_base.specs.declared.typed.TypedValue.TheVariants.{Read as TypedRead}
use Rattle.ceal_types.specs.Checked.{checked, with_body, typed_function}
use Rattle.ceal_types.specs.Expressions.{typed_form}
use Rattle.ceal_types.specs.Heads.{with_parameter, head_of, with_entry, struct_names, heads}
use Rattle.ceal_types.specs.Statements.{typed_value, typed_stmt}
use Rattle.ceal_types.specs.Tables.{find}
use Rattle.ceal_types.specs.Walk.{in_turn, fault}

abbrev at : ℕ → Span
at n = record { from = n; to = n }

abbrev named : List ℕ → ℕ → Ident
named text n = record { text = text; span = at n }

abbrev variable : List ℕ → ℕ → Expr
variable text n = record { span = at n; form = Var (named text n) }

abbrev number : ℕ → ℕ → Expr
number value n = record { span = at n; form = Num (pos value) }

abbrev null : ℕ → Expr
null n = record { span = at n; form = Null }

abbrev place : ℕ → ℕ → TypedExpr
place v n = record { span = at n; kind = Some ModInt; form = TypedVar v }

-- a core function `f` of the parameters `mod int *a` and `mod int *b`
abbrev program : List Stmt → Tree
program body = record {
  entries = Function (record {
    initialiser = None;
    name = named (codes "f") 1;
    params = record { form = forms.ModInt; name = named (codes "a") 2 } ∷ record { form = forms.ModInt; name = named (codes "b") 3 } ∷ [];
    body = body;
    close = at 99;
  }) ∷ [];
}

abbrev typed_inc : Typed
typed_inc = record {
  structs = [];
  functions = record {
    initialiser = None;
    name = named (codes "f") 1;
    params = 2;
    kinds = ModInt ∷ ModInt ∷ Int ∷ [];
    body = TypedDeclare (at 4) 2 Int (TypedRead (at 6) (place 0 7))
        ∷ TypedWrite (at 8) (place 1 9) (record {
          span = at 10;
          kind = Some Int;
          form = typed.Binary Add (at 11) (record { span = at 10; kind = Some Int; form = TypedVar 2 }) (record { span = at 12; kind = Some Int; form = TypedNum (pos 1) });
        })
        ∷ [];
    close = at 99;
  } ∷ [];
}

-- `int x = read(a); write(b, x + 1);`
inc : checked (program (
    Declare (at 4) forms.Int (named (codes "x") 5) (Read (at 6) (variable (codes "a") 7))
    ∷ Write (at 8) (variable (codes "b") 9) (record { span = at 10; form = Binary Add (at 11) (variable (codes "x") 10) (number 1 12) })
    ∷ [])) ≡ Ok typed_inc
unfolding checked heads struct_names in_turn with_entry head_of with_parameter with_body typed_function typed_stmt
    typed_value typed_form hidden-the_row-Expr-0 shape-the_row-Expr-0 hidden-the_row-Stmt-0 shape-the_row-Stmt-0 find
    denote.Hole.Carrier.hidden
inc = refl

-- `if (null == null) { int x = 1; } x = 2;`: the comparison is allowed, and `x` is out of scope after the block
out_of_scope : checked (program (
    If (at 4) (record { span = at 5; form = Binary Same (at 6) (null 5) (null 7) })
    (Declare (at 8) forms.Int (named (codes "x") 9) (Plain (number 1 10)) ∷ []) []
    ∷ Assign (named (codes "x") 11) (Plain (number 2 12))
    ∷ [])) ≡ fault N1 (at 11)
unfolding checked heads struct_names in_turn with_entry head_of with_parameter with_body typed_function typed_stmt
    typed_value typed_form hidden-the_row-Expr-0 shape-the_row-Expr-0 hidden-the_row-Stmt-0 shape-the_row-Stmt-0 find
    denote.Hole.Carrier.hidden
out_of_scope = refl

-- `int x = 1; if (x) { int x = 2; }`: the outer `x` is still in scope
defined_twice : checked (program (
    Declare (at 4) forms.Int (named (codes "x") 5) (Plain (number 1 6))
    ∷ If (at 7) (variable (codes "x") 8) (Declare (at 9) forms.Int (named (codes "x") 10) (Plain (number 2 11)) ∷ []) []
    ∷ [])) ≡ fault N2 (at 10)
unfolding checked heads struct_names in_turn with_entry head_of with_parameter with_body typed_function typed_stmt
    typed_value typed_form hidden-the_row-Expr-0 shape-the_row-Expr-0 hidden-the_row-Stmt-0 shape-the_row-Stmt-0 find
    denote.Hole.Carrier.hidden
defined_twice = refl

-- `f(y);`: the arguments are looked at before their number
unknown_argument : checked (program (Call (named (codes "f") 4) (variable (codes "y") 5 ∷ []) ∷ [])) ≡ fault N1 (at 5)
unfolding checked heads struct_names in_turn with_entry head_of with_parameter with_body typed_function typed_stmt
    typed_value typed_form hidden-the_row-Expr-0 shape-the_row-Expr-0 hidden-the_row-Stmt-0 shape-the_row-Stmt-0 find
    denote.Hole.Carrier.hidden
unknown_argument = refl

-- `f(a);`
one_argument : checked (program (Call (named (codes "f") 4) (variable (codes "a") 5 ∷ []) ∷ [])) ≡ fault T2 (at 4)
unfolding checked heads struct_names in_turn with_entry head_of with_parameter with_body typed_function typed_stmt
    typed_value typed_form hidden-the_row-Expr-0 shape-the_row-Expr-0 hidden-the_row-Stmt-0 shape-the_row-Stmt-0 find
    denote.Hole.Carrier.hidden
one_argument = refl
