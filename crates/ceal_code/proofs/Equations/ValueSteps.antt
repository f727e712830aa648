-- The value of an expression, at each form, and the values of expressions with one more at the end.
use Rattle.std.proofs.Common.{◌≡◌, Bool, true, false, ℕ, ℤ, ◌+◌, ◌<◌, List, [], ◌∷◌, ◌++◌, length, take, get_or, refl, sym, ap, ◌∙◌}
use Rattle.std.proofs.lemmas.List.{take_more}
use Rattle.ceal_base.specs.Operators.{number_of, truth, numbers_value, unary_value, binary_value}
use Rattle.ceal_base.specs.declared.operators.Binary.{Binary as BinaryOp}
use Rattle.ceal_base.specs.declared.operators.Unary.{Unary as UnaryOp}
use Rattle.ceal_base.specs.declared.typed.StructInfo.{StructInfo}
use Rattle.ceal_base.specs.declared.word.Word.{Word}
use Rattle.ceal_base.specs.declared.word.Word.TheVariants.{Num as NumWord, Null as NullWord}
use Rattle.ceal_code.specs.Arithmetic.{IsArithmetic}
use Rattle.ceal_code.specs.Value.{Plain, Variables, expr_value, values, field_value, address_value}
use Rattle.ceal_code.specs.declared.expr.CodeExpr.{CodeExpr}
use Rattle.ceal_code.specs.declared.expr.CodeExpr.TheBlock.{hidden-the_row-CodeExpr-0, shape-the_row-CodeExpr-0}
use Rattle.ceal_code.specs.declared.expr.CodeExpr.TheVariants.{Num, Null, Var}
use Rattle.ceal_code.specs.declared.expr.CodeExpr.TheViews.{Unary, Binary, Field, Address}
use Rattle.ceal_code.specs.declared.expr.VarId.{VarId}

module _ (structs : List StructInfo) (x : Plain) (env : Variables) where
  pub value-num : (n : ℤ) → expr_value structs x env (Num n) ≡ NumWord n
  unfolding expr_value
  value-num n = refl

  pub value-null : expr_value structs x env Null ≡ NullWord
  unfolding expr_value
  value-null = refl

  pub value-var : (v : VarId) → expr_value structs x env (Var v) ≡ env v.0
  unfolding expr_value
  value-var v = refl

  pub value-unary : (op : UnaryOp) (a : CodeExpr) → expr_value structs x env (Unary op a) ≡ unary_value op (expr_value structs x env a)
  unfolding expr_value hidden-the_row-CodeExpr-0 shape-the_row-CodeExpr-0 denote.Hole.Carrier.hidden
  value-unary op a = refl

  pub value-binary : (op : BinaryOp) (a b : CodeExpr)
      → expr_value structs x env (Binary op a b) ≡ binary_value op (expr_value structs x env a) (expr_value structs x env b)
  unfolding expr_value hidden-the_row-CodeExpr-0 shape-the_row-CodeExpr-0 denote.Hole.Carrier.hidden
  value-binary op a b = refl

  pub value-field : (a : CodeExpr) (s field : ℕ) → expr_value structs x env (Field a s field) ≡ field_value structs x (expr_value structs x env a) s field
  unfolding expr_value hidden-the_row-CodeExpr-0 shape-the_row-CodeExpr-0 denote.Hole.Carrier.hidden
  value-field a s field = refl

  pub value-address : (a : CodeExpr) (s field : ℕ) → expr_value structs x env (Address a s field) ≡ address_value structs x (expr_value structs x env a) s field
  unfolding expr_value hidden-the_row-CodeExpr-0 shape-the_row-CodeExpr-0 denote.Hole.Carrier.hidden
  value-address a s field = refl

  -- in code, from the parts of an expression
  pub arithmetic-word : (op : BinaryOp) (a b e : CodeExpr) (m n k : ℤ) → IsArithmetic op → e ≡ Binary op a b
      → m ≡ number_of (expr_value structs x env a) → n ≡ number_of (expr_value structs x env b) → k ≡ number_of (numbers_value op m n)
      → NumWord k ≡ expr_value structs x env e
  arithmetic-word op a b e m n k h i l r s =
      ap NumWord s
      ∙ (ap (λ z. NumWord (number_of (numbers_value op z n))) l
      ∙ (ap (λ z. NumWord (number_of (numbers_value op (number_of (expr_value structs x env a)) z))) r
      ∙ (sym (h (expr_value structs x env a) (expr_value structs x env b))
      ∙ sym (ap (expr_value structs x env) i ∙ value-binary op a b))))

  pub arithmetic-number : (op : BinaryOp) (a b e : CodeExpr) (m n k : ℤ) → IsArithmetic op → e ≡ Binary op a b
      → m ≡ number_of (expr_value structs x env a) → n ≡ number_of (expr_value structs x env b) → k ≡ number_of (numbers_value op m n)
      → k ≡ number_of (expr_value structs x env e)
  arithmetic-number op a b e m n k h i l r s = ap number_of (arithmetic-word op a b e m n k h i l r s)

  pub binary-number : (op : BinaryOp) (a b e : CodeExpr) (u v w : Word) (k : ℤ) → e ≡ Binary op a b → u ≡ expr_value structs x env a
      → v ≡ expr_value structs x env b → w ≡ binary_value op u v → k ≡ number_of w → k ≡ number_of (expr_value structs x env e)
  binary-number op a b e u v w k i l m r s =
      s ∙ ap number_of (r ∙ (ap (λ z. binary_value op z v) l ∙ (ap (binary_value op (expr_value structs x env a)) m ∙ sym (ap (expr_value structs x env) i ∙ value-binary op a b))))

  pub values-none : values structs x env [] ≡ []
  unfolding values
  values-none = refl

  pub values-push : (es : List CodeExpr) (e : CodeExpr) → values structs x env (es ++ e ∷ []) ≡ values structs x env es ++ expr_value structs x env e ∷ []
  unfolding values
  values-push [] e = refl
  values-push (d ∷ es) e = ap (λ ws. expr_value structs x env d ∷ ws) (values-push es e)

  pub values-take : (es : List CodeExpr) (i : ℕ) (d : CodeExpr) → i < length es
      → values structs x env (take (i + 1) es) ≡ values structs x env (take i es) ++ expr_value structs x env (get_or es i d) ∷ []
  values-take es i d h = rw (take_more es i d h) (values-push (take i es) (get_or es i d))

-- a truth value is a number
pub truth-number : (holds : Bool) → truth holds ≡ NumWord (number_of (truth holds))
truth-number true = refl
truth-number false = refl

pub ruleset arithmetic_steps = (truth-number)

pub ruleset value_steps = (value-num, value-null, value-var, value-unary, value-binary, value-field, value-address)

pub ruleset values_steps = (values-none, values-push)
