-- The folding of each form of expression.
use Rattle.std.proofs.Common.{◌≡◌, ℕ, ℤ, List, [], ◌∷◌, refl, length, arith, append_assoc}
use Rattle.std.proofs.lemmas.List.{append-nil}
use Rattle.ceal_base.specs.declared.operators.Binary.{Binary as BinaryOp}
use Rattle.ceal_base.specs.declared.operators.Unary.{Unary as UnaryOp}
use Rattle.ceal_base.specs.declared.typed.StructInfo.{StructInfo}
use Rattle.ceal_code.specs.declared.expr.CodeExpr.{CodeExpr}
use Rattle.ceal_code.specs.declared.expr.CodeExpr.TheBlock.{hidden-the_row-CodeExpr-0, shape-the_row-CodeExpr-0}
use Rattle.ceal_code.specs.declared.expr.CodeExpr.TheVariants.{Num, Null, Var}
use Rattle.ceal_code.specs.declared.expr.CodeExpr.TheViews.{Unary, Binary, Field, Address}
use Rattle.ceal_code.specs.declared.expr.VarId.{VarId}
use Rattle.ceal_fold.specs.Folding.{Copies, use_of, constant, unary_folded, binary_folded, field_folded, address_folded, folded_expr, folded_exprs}

module _ (structs : List StructInfo) (known : Copies) where
  pub fold-num : (n : ℤ) → folded_expr structs known (Num n) ≡ Num n
  unfolding folded_expr
  fold-num n = refl

  pub fold-null : folded_expr structs known Null ≡ Null
  unfolding folded_expr
  fold-null = refl

  pub fold-var : (v : VarId) → folded_expr structs known (Var v) ≡ use_of v (known v.0)
  unfolding folded_expr
  fold-var v = refl

  pub fold-unary : (op : UnaryOp) (a : CodeExpr)
      → folded_expr structs known (Unary op a) ≡ unary_folded op (folded_expr structs known a) (constant (folded_expr structs known a))
  unfolding folded_expr hidden-the_row-CodeExpr-0 shape-the_row-CodeExpr-0 denote.Hole.Carrier.hidden
  fold-unary op a = refl

  pub fold-binary : (op : BinaryOp) (a b : CodeExpr)
      → folded_expr structs known (Binary op a b)
      ≡ binary_folded op (folded_expr structs known a) (folded_expr structs known b) (constant (folded_expr structs known a)) (constant (folded_expr structs known b))
  unfolding folded_expr hidden-the_row-CodeExpr-0 shape-the_row-CodeExpr-0 denote.Hole.Carrier.hidden
  fold-binary op a b = refl

  pub fold-field : (a : CodeExpr) (s field : ℕ)
      → folded_expr structs known (Field a s field) ≡ field_folded structs (folded_expr structs known a) s field
  unfolding folded_expr hidden-the_row-CodeExpr-0 shape-the_row-CodeExpr-0 denote.Hole.Carrier.hidden
  fold-field a s field = refl

  pub fold-address : (a : CodeExpr) (s field : ℕ)
      → folded_expr structs known (Address a s field) ≡ address_folded (folded_expr structs known a) s field
  unfolding folded_expr hidden-the_row-CodeExpr-0 shape-the_row-CodeExpr-0 denote.Hole.Carrier.hidden
  fold-address a s field = refl

  pub exprs-cons : (e : CodeExpr) (es : List CodeExpr) → folded_exprs structs known (e ∷ es) ≡ folded_expr structs known e ∷ folded_exprs structs known es
  unfolding folded_exprs
  exprs-cons e es = refl

  pub exprs-end : (es : List CodeExpr) → length es ≡ 0 → folded_exprs structs known es ≡ []
  unfolding folded_exprs
  exprs-end [] h = refl
  exprs-end (e ∷ es) h = absurd (omega (arith, h))

pub ruleset fold_steps = (fold-num, fold-null, fold-var, fold-unary, fold-binary, fold-field, fold-address)

pub ruleset list_steps = (exprs-cons, exprs-end, append_assoc, append-nil)
