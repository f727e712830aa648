-- The value of an expression, at each form.
use Rattle.std.proofs.Common.{◌≡◌, ℕ, ℤ, Option, List, refl}
use Rattle.ceal_base.specs.Access.{field_of, address_of}
use Rattle.ceal_base.specs.Block.{Blocks}
use Rattle.ceal_base.specs.Operators.{unary_value, binary_value}
use Rattle.ceal_base.specs.Shapes.{default_of}
use Rattle.ceal_base.specs.declared.kind.Kind.{Kind}
use Rattle.ceal_base.specs.declared.fault.Span.{Span}
use Rattle.ceal_base.specs.declared.operators.Binary.{Binary as BinaryOp}
use Rattle.ceal_base.specs.declared.operators.Unary.{Unary as UnaryOp}
use Rattle.ceal_base.specs.declared.typed.TypedExpr.{TypedExpr}
use Rattle.ceal_base.specs.declared.typed.TypedForm.{Num as NumForm, Null as NullForm, Var, Own}
use Rattle.ceal_base.specs.declared.typed.TypedForm.TheBlock.{hidden-the_row-TypedExpr-0, shape-the_row-TypedExpr-0}
use Rattle.ceal_base.specs.declared.typed.TypedForm.TheViews.{Unary, Binary, Field, Address}
use Rattle.ceal_base.specs.declared.word.Word.{Word}
use Rattle.ceal_base.specs.declared.word.Word.TheVariants.{Num, Null}
use Rattle.ceal_mean.specs.Value.{value_of, form_value, variable_of}

module _ (env : List Word) (m : Blocks) (kind : Option Kind) where
  pub value-unary : (op : UnaryOp) (a : TypedExpr) → form_value env m kind (Unary op a) ≡ unary_value op (value_of env m a)
  unfolding form_value hidden-the_row-TypedExpr-0 shape-the_row-TypedExpr-0 denote.Hole.Carrier.hidden
  value-unary op a = refl

  pub value-binary : (op : BinaryOp) (at : Span) (a b : TypedExpr)
      → form_value env m kind (Binary op at a b) ≡ binary_value op (value_of env m a) (value_of env m b)
  unfolding form_value hidden-the_row-TypedExpr-0 shape-the_row-TypedExpr-0 denote.Hole.Carrier.hidden
  value-binary op at a b = refl

  pub value-field : (a : TypedExpr) (shape field : ℕ)
      → form_value env m kind (Field a shape field) ≡ field_of m shape (value_of env m a) field (default_of kind)
  unfolding form_value hidden-the_row-TypedExpr-0 shape-the_row-TypedExpr-0 denote.Hole.Carrier.hidden
  value-field a shape field = refl

  pub value-address : (a : TypedExpr) (shape field : ℕ)
      → form_value env m kind (Address a shape field) ≡ address_of m shape (value_of env m a) field
  unfolding form_value hidden-the_row-TypedExpr-0 shape-the_row-TypedExpr-0 denote.Hole.Carrier.hidden
  value-address a shape field = refl

  pub value-num : (n : ℤ) → form_value env m kind (NumForm n) ≡ Num n
  unfolding form_value
  value-num n = refl

  pub value-null : form_value env m kind NullForm ≡ Null
  unfolding form_value
  value-null = refl

  pub value-own : form_value env m kind Own ≡ Null
  unfolding form_value
  value-own = refl

  pub value-var : (n : ℕ) → form_value env m kind (Var n) ≡ variable_of env n
  unfolding form_value
  value-var n = refl

pub ruleset value_steps = (value-num, value-null, value-own, value-var, value-unary, value-binary, value-field, value-address)
