-- The text of code, piece by piece.
use Rattle.std.proofs.Common.{◌≡◌, if◌then◌else◌, ℕ, zero, suc, ℤ, ◌+◌, List, [], ◌∷◌, ◌++◌, refl, length, arith, codes, ap, append_assoc, append-nil, ◌∙◌}
use Rattle.std.specs.Fmt.{signed_decimal}
use Rattle.ceal_base.specs.declared.operators.Binary.{Binary as BinaryOp}
use Rattle.ceal_base.specs.declared.operators.Unary.{Unary as UnaryOp}
use Rattle.ceal_base.specs.declared.typed.StructInfo.{StructInfo}
use Rattle.ceal_code.specs.Listing.{expr_text, field_name, unary_sign, binary_sign, is_pick, without_index, var_text, more_exprs, more_vars, indent}
use Rattle.ceal_code.specs.declared.expr.CodeExpr.{CodeExpr}
use Rattle.ceal_code.specs.declared.expr.CodeExpr.TheBlock.{hidden-the_row-CodeExpr-0, shape-the_row-CodeExpr-0}
use Rattle.ceal_code.specs.declared.expr.CodeExpr.TheVariants.{Num, Null, Var}
use Rattle.ceal_code.specs.declared.expr.CodeExpr.TheViews.{Unary, Binary, Field, Address}
use Rattle.ceal_code.specs.declared.expr.VarId.{VarId}

module _ (structs : List StructInfo) where
  pub text-num : (n : ℤ) → expr_text structs (Num n) ≡ signed_decimal n
  unfolding expr_text
  text-num n = refl

  pub text-null : expr_text structs Null ≡ codes "null"
  unfolding expr_text
  text-null = refl

  pub text-var : (v : VarId) → expr_text structs (Var v) ≡ var_text v
  unfolding expr_text
  text-var v = refl

  pub text-unary : (op : UnaryOp) (a : CodeExpr) → expr_text structs (Unary op a) ≡ codes "(" ++ unary_sign op ++ expr_text structs a ++ codes ")"
  unfolding expr_text hidden-the_row-CodeExpr-0 shape-the_row-CodeExpr-0 denote.Hole.Carrier.hidden
  text-unary op a = refl

  pub text-binary : (op : BinaryOp) (a b : CodeExpr)
      → expr_text structs (Binary op a b)
      ≡ (if is_pick op then without_index (expr_text structs a) ++ binary_sign op ++ expr_text structs b ++ codes "]"
      else codes "(" ++ expr_text structs a ++ binary_sign op ++ expr_text structs b ++ codes ")")
  unfolding expr_text hidden-the_row-CodeExpr-0 shape-the_row-CodeExpr-0 denote.Hole.Carrier.hidden
  text-binary op a b = refl

  pub text-field : (a : CodeExpr) (s field : ℕ) → expr_text structs (Field a s field) ≡ expr_text structs a ++ codes "->" ++ field_name structs s field
  unfolding expr_text hidden-the_row-CodeExpr-0 shape-the_row-CodeExpr-0 denote.Hole.Carrier.hidden
  text-field a s field = refl

  pub text-address : (a : CodeExpr) (s field : ℕ)
      → expr_text structs (Address a s field) ≡ codes "&" ++ expr_text structs a ++ codes "->" ++ field_name structs s field
  unfolding expr_text hidden-the_row-CodeExpr-0 shape-the_row-CodeExpr-0 denote.Hole.Carrier.hidden
  text-address a s field = refl

  pub exprs-cons : (e : CodeExpr) (es : List CodeExpr) → more_exprs structs (e ∷ es) ≡ codes ", " ++ expr_text structs e ++ more_exprs structs es
  unfolding more_exprs
  exprs-cons e es = refl

  pub exprs-end : (es : List CodeExpr) → length es ≡ 0 → more_exprs structs es ≡ []
  unfolding more_exprs
  exprs-end [] h = refl
  exprs-end (e ∷ es) h = absurd (omega (arith, h))

pub vars-cons : (v : VarId) (vs : List VarId) → more_vars (v ∷ vs) ≡ codes ", " ++ var_text v ++ more_vars vs
unfolding more_vars
vars-cons v vs = refl

pub vars-end : (vs : List VarId) → length vs ≡ 0 → more_vars vs ≡ []
unfolding more_vars
vars-end [] h = refl
vars-end (v ∷ vs) h = absurd (omega (arith, h))

pub indent-none : indent 0 ≡ []
unfolding indent
indent-none = refl

pub indent-more : (n : ℕ) → indent (n + 1) ≡ indent n ++ codes "  "
unfolding indent
indent-more zero = refl
indent-more (suc n) = let e : (suc n + 1) ≡ suc (n + 1) = omega arith in ap indent e ∙ ap (λ t. codes "  " ++ t) (indent-more n)

pub ruleset expr_steps = (text-num, text-null, text-var, text-unary, text-binary, text-field, text-address, append_assoc)

pub ruleset exprs_steps = (exprs-cons, exprs-end, append_assoc, append-nil)

pub ruleset vars_steps = (vars-cons, vars-end, append_assoc, append-nil)

pub ruleset indent_steps = (indent-none, indent-more, append_assoc, append-nil)

pub ruleset joins = (append_assoc, append-nil)
