-- Expressions of trace code, at each form.
use Rattle.std.proofs.Common.{◌≡◌, ℕ, ℤ, ◌==◌, Bool, true, false, List, [], ◌∷◌, ◌++◌, length, if◌then◌else◌, refl, append-nil, append_assoc, arith}
use Rattle.ceal_base.specs.declared.fault.Span.{Span}
use Rattle.ceal_base.specs.declared.operators.Binary.{Binary as BinaryOp}
use Rattle.ceal_base.specs.declared.operators.Unary.{Unary as UnaryOp}
use Rattle.ceal_base.specs.declared.typed.TypedExpr.{TypedExpr}
use Rattle.ceal_base.specs.declared.typed.TypedForm.{Num as NumForm, Null as NullForm, Var as VarForm, Own}
use Rattle.ceal_base.specs.declared.typed.TypedForm.TheBlock.{hidden-the_row-TypedExpr-0, shape-the_row-TypedExpr-0}
use Rattle.ceal_base.specs.declared.typed.TypedForm.TheViews.{Unary, Binary, Field, Address}
use Rattle.ceal_code.specs.declared.expr.CodeExpr.{Num, Null, Var}
use Rattle.ceal_code.specs.declared.expr.CodeExpr.TheViews as code
use Rattle.ceal_norm.specs.Expressions.{variable, form_code, expr_code}
use Rattle.ceal_norm.specs.Units.{own_args, without}

pub expr-num : (n : ℤ) → form_code (NumForm n) ≡ Num n
unfolding form_code
expr-num n = refl

pub expr-null : form_code NullForm ≡ Null
unfolding form_code
expr-null = refl

pub expr-own : form_code Own ≡ Null
unfolding form_code
expr-own = refl

pub expr-var : (n : ℕ) → form_code (VarForm n) ≡ Var (variable n)
unfolding form_code
expr-var n = refl

pub expr-unary : (op : UnaryOp) (a : TypedExpr) → form_code (Unary op a) ≡ code.Unary op (expr_code a)
unfolding form_code hidden-the_row-TypedExpr-0 shape-the_row-TypedExpr-0 denote.Hole.Carrier.hidden
expr-unary op a = refl

pub expr-binary : (op : BinaryOp) (at : Span) (a b : TypedExpr) → form_code (Binary op at a b) ≡ code.Binary op (expr_code a) (expr_code b)
unfolding form_code hidden-the_row-TypedExpr-0 shape-the_row-TypedExpr-0 denote.Hole.Carrier.hidden
expr-binary op at a b = refl

pub expr-field : (a : TypedExpr) (shape field : ℕ) → form_code (Field a shape field) ≡ code.Field (expr_code a) shape field
unfolding form_code hidden-the_row-TypedExpr-0 shape-the_row-TypedExpr-0 denote.Hole.Carrier.hidden
expr-field a shape field = refl

pub expr-address : (a : TypedExpr) (shape field : ℕ) → form_code (Address a shape field) ≡ code.Address (expr_code a) shape field
unfolding form_code hidden-the_row-TypedExpr-0 shape-the_row-TypedExpr-0 denote.Hole.Carrier.hidden
expr-address a shape field = refl

pub ruleset expr_steps = (expr-num, expr-null, expr-own, expr-var, expr-unary, expr-binary, expr-field, expr-address)

-- the variables but one, one by one
other-here : (b : Bool) (w : ℕ) (vs : List ℕ) → own_args (if b then vs else w ∷ vs) ≡ own_args (if b then [] else w ∷ []) ++ own_args vs
other-here true w vs = refl
other-here false w vs = refl

pub others-none : (v : ℕ) → own_args (without v []) ≡ []
unfolding without
others-none v = refl

pub others-end : (v : ℕ) (ws : List ℕ) → length ws ≡ 0 → own_args (without v ws) ≡ []
unfolding without
others-end v [] h = refl
others-end v (w ∷ ws) h = absurd (omega (arith, h))

pub others-cons : (v w : ℕ) (ws : List ℕ) → own_args (without v (w ∷ ws)) ≡ own_args (if w == v then [] else w ∷ []) ++ own_args (without v ws)
unfolding without
others-cons v w ws = other-here (w == v) w (without v ws)

pub ruleset others_steps = (others-none, others-end, others-cons, append-nil, append_assoc)
