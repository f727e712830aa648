-- The type of each form of expression.
use Rattle.std.proofs.Common.{◌≡◌, ℕ, ℤ, Option, Some, None, Result, Ok, refl}
use Rattle.std.specs.Map.{lookup}
use Rattle.std.specs.Str.{bytes_eq}
use Rattle.ceal_base.specs.declared.fault.Fault.{Fault}
use Rattle.ceal_base.specs.declared.fault.Span.{Span}
use Rattle.ceal_base.specs.declared.kind.Kind.TheVariants.{Int}
use Rattle.ceal_base.specs.declared.operators.Binary.{Binary as BinaryOp}
use Rattle.ceal_base.specs.declared.operators.Unary.{Unary as UnaryOp}
use Rattle.ceal_base.specs.declared.syntax.Expr.{Expr}
use Rattle.ceal_base.specs.declared.syntax.ExprForm.{ExprForm, Num, Null, Var, Own, Unary', Binary', Field', Address', Pick', out-ExprForm}
use Rattle.ceal_base.specs.declared.syntax.ExprForm.TheBlock.{hidden-the_row-Expr-0, shape-the_row-Expr-0, shown-the_row-Expr-0, more_of-Expr}
use Rattle.ceal_base.specs.declared.syntax.ExprForm.TheOpen.{ExprForm-F, Field as FieldOpen}
use Rattle.ceal_base.specs.declared.syntax.ExprForm.TheViews.{Unary, Binary, Field, Address, Pick}
use Rattle.ceal_base.specs.declared.syntax.Ident.{Ident}
use Rattle.ceal_base.specs.declared.typed.TypedExpr.{TypedExpr}
use Rattle.ceal_base.specs.declared.typed.TypedForm.{Num as NumForm, Null as NullForm}
use Rattle.ceal_types.specs.Expressions.{Scope, typed_form, typed_expr, expression, variable_at, own_at, unary_at, binary_at, field_at, address_at, no_address, pick_at, no_pick}
use Rattle.ceal_types.specs.Walk.{after, both}
use Rattle.ceal_types.specs.declared.program.Program.{Program}

-- the field access that an expression is, if it is one
abbrev access_of : ExprForm-F ExprForm Expr → Option (Expr × Ident)
access_of (FieldOpen a name) = Some (a, name)
access_of _ = None

-- `&` of a field access, or of what is none
abbrev addressed : Program → Option ℕ → Scope → Span → Expr → Option (Expr × Ident) → Result TypedExpr Fault
addressed p own scope at e (Some f) = after (address_at p.structs at f.1) (typed_expr p own scope f.0)
addressed p own scope at e None = after no_address (typed_expr p own scope e)

-- `&` of an index after a field access, or after what is none
abbrev indexed : Program → Option ℕ → Scope → Span → Expr → Expr → Option (Expr × Ident) → Result TypedExpr Fault
indexed p own scope at e i (Some f) = both (pick_at p.structs at f.1) (typed_expr p own scope f.0) (typed_expr p own scope i)
indexed p own scope at e i None = both no_pick (typed_expr p own scope e) (typed_expr p own scope i)

module _ (p : Program) (own : Option ℕ) (scope : Scope) (at : Span) where
  pub type-num : (n : ℤ) → typed_form p own scope at (Num n) ≡ Ok (expression at (Some Int) (NumForm n))
  unfolding typed_form
  type-num n = refl

  pub type-null : typed_form p own scope at Null ≡ Ok (expression at None NullForm)
  unfolding typed_form
  type-null = refl

  pub type-var : (name : Ident) → typed_form p own scope at (Var name) ≡ variable_at at name (lookup (bytes_eq name.text) scope)
  unfolding typed_form
  type-var name = refl

  pub type-own : typed_form p own scope at Own ≡ own_at at own
  unfolding typed_form
  type-own = refl

  pub type-unary : (op : UnaryOp) (a : Expr) → typed_form p own scope at (Unary op a) ≡ after (unary_at at op) (typed_expr p own scope a)
  unfolding typed_form hidden-the_row-Expr-0 shape-the_row-Expr-0 denote.Hole.Carrier.hidden
  type-unary op a = refl

  pub type-binary : (op : BinaryOp) (sign : Span) (a b : Expr)
      → typed_form p own scope at (Binary op sign a b) ≡ both (binary_at at op sign) (typed_expr p own scope a) (typed_expr p own scope b)
  unfolding typed_form hidden-the_row-Expr-0 shape-the_row-Expr-0 denote.Hole.Carrier.hidden
  type-binary op sign a b = refl

  pub type-field : (a : Expr) (name : Ident) → typed_form p own scope at (Field a name) ≡ after (field_at p.structs at name) (typed_expr p own scope a)
  unfolding typed_form hidden-the_row-Expr-0 shape-the_row-Expr-0 denote.Hole.Carrier.hidden
  type-field a name = refl

  type-address-form : (span : Span) (form : ExprForm) → typed_form p own scope at (Address (record { span = span; form = form }))
      ≡ addressed p own scope at (record { span = span; form = form }) (access_of (out-ExprForm form))
  unfolding typed_form hidden-the_row-Expr-0 shape-the_row-Expr-0 denote.Hole.Carrier.hidden denote.Hole.Carrier.out out-ExprForm shown-the_row-Expr-0 denote.Hole.Carrier.shown
  type-address-form span (Num n) = refl
  type-address-form span Null = refl
  type-address-form span (Var name) = refl
  type-address-form span Own = refl
  type-address-form span (Unary' op _ a) = refl
  type-address-form span (Binary' op sign _ a _ b) = refl
  type-address-form span (Field' _ (more_of-Expr s form rest) name) = refl
  type-address-form span (Address' _ a) = refl
  type-address-form span (Pick' _ a _ i) = refl

  pub type-address : (a : Expr) → typed_form p own scope at (Address a) ≡ addressed p own scope at a (access_of (out-ExprForm a.form))
  unfolding typed_form hidden-the_row-Expr-0 shape-the_row-Expr-0 denote.Hole.Carrier.hidden
  type-address a = type-address-form a.span a.form

  pub type-place : (e : Expr) (a : Expr) (name : Ident) → e.form ≡ Field a name
      → typed_form p own scope at (Address e) ≡ after (address_at p.structs at name) (typed_expr p own scope a)
  unfolding typed_form hidden-the_row-Expr-0 shape-the_row-Expr-0 denote.Hole.Carrier.hidden denote.Hole.Carrier.out out-ExprForm
  type-place e a name is = rw is refl

  type-pick-form : (span : Span) (form : ExprForm) (i : Expr) → typed_form p own scope at (Pick (record { span = span; form = form }) i)
      ≡ indexed p own scope at (record { span = span; form = form }) i (access_of (out-ExprForm form))
  unfolding typed_form hidden-the_row-Expr-0 shape-the_row-Expr-0 denote.Hole.Carrier.hidden denote.Hole.Carrier.out out-ExprForm shown-the_row-Expr-0 denote.Hole.Carrier.shown
  type-pick-form span (Num n) i = refl
  type-pick-form span Null i = refl
  type-pick-form span (Var name) i = refl
  type-pick-form span Own i = refl
  type-pick-form span (Unary' op _ a) i = refl
  type-pick-form span (Binary' op sign _ a _ b) i = refl
  type-pick-form span (Field' _ (more_of-Expr s form rest) name) i = refl
  type-pick-form span (Address' _ a) i = refl
  type-pick-form span (Pick' _ a _ b) i = refl

  pub type-pick : (a i : Expr) → typed_form p own scope at (Pick a i) ≡ indexed p own scope at a i (access_of (out-ExprForm a.form))
  unfolding typed_form hidden-the_row-Expr-0 shape-the_row-Expr-0 denote.Hole.Carrier.hidden
  type-pick a i = type-pick-form a.span a.form i

  pub type-element : (e i a : Expr) (name : Ident) → e.form ≡ Field a name
      → typed_form p own scope at (Pick e i) ≡ both (pick_at p.structs at name) (typed_expr p own scope a) (typed_expr p own scope i)
  unfolding typed_form hidden-the_row-Expr-0 shape-the_row-Expr-0 denote.Hole.Carrier.hidden denote.Hole.Carrier.out out-ExprForm
  type-element e i a name is = rw is refl

pub ruleset expression_steps = (type-num, type-null, type-var, type-own, type-unary, type-binary, type-field, type-address, type-pick)
