-- The program `ceal inc(mod int *a, mod int *b) { int x = read(a); write(b, x + 1); }` is well typed.
use Rattle.std.proofs.Common.{ℕ, pos, arith, Some, None, [], ◌∷◌, refl}
use Rattle.ceal_base.specs.WellTyped.{StmtsTyped, StmtTyped, FormTyped, context_of, numbers_below}
use Rattle.ceal_base.specs.declared.fault.Span.{Span}
use Rattle.ceal_base.specs.declared.kind.Kind.TheVariants.{Int, ModInt}
use Rattle.ceal_base.specs.declared.operators.Binary.TheVariants.{Add}
use Rattle.ceal_base.specs.declared.typed.TypedExpr.{TypedExpr}
use Rattle.ceal_base.specs.declared.typed.TypedForm.{Num as NumForm, Var}
use Rattle.ceal_base.specs.declared.typed.TypedForm.TheBlock.{hidden-the_row-TypedExpr-0, shape-the_row-TypedExpr-0}
use Rattle.ceal_base.specs.declared.typed.TypedForm.TheViews.{Binary}
use Rattle.ceal_base.specs.declared.typed.TypedFunction.{TypedFunction}
use Rattle.ceal_base.specs.declared.typed.TypedStmt.TheVariants.{Declare, Write}
use Rattle.ceal_base.specs.declared.typed.TypedValue.TheVariants.{Read}

abbrev at : Span
at = record { from = 0; to = 0 }

abbrev place : ℕ → TypedExpr
place n = record { span = at; kind = Some ModInt; form = Var n }

abbrev number : ℕ → TypedExpr
number n = record { span = at; kind = Some Int; form = NumForm (pos n) }

abbrev x : TypedExpr
x = record { span = at; kind = Some Int; form = Var 2 }

abbrev inc : TypedFunction
inc = record {
  initialiser = None;
  name = record { text = []; span = at };
  params = 2;
  kinds = ModInt ∷ ModInt ∷ Int ∷ [];
  body = Declare at 2 Int (Read at (place 0))
      ∷ Write at (place 1) (record { span = at; kind = Some Int; form = Binary Add at x (number 1) })
      ∷ [];
  close = at;
}

inc_typed : StmtsTyped (context_of [] (inc ∷ []) inc) (numbers_below 2) 2 inc.body
unfolding StmtsTyped StmtTyped FormTyped hidden-the_row-TypedExpr-0 shape-the_row-TypedExpr-0 denote.Hole.Carrier.hidden
inc_typed = (
  (refl, refl, (((1, omega arith, refl), refl, refl), refl)),
  ((((1, omega arith, refl), refl, refl), ((((0, omega arith, refl), refl, refl), refl, (refl, refl), tt, refl), refl)), tt),
)
