-- The variables that each form of expression and command uses.
use Rattle.std.proofs.Common.{◌≡◌, ℕ, ℤ, Bool, true, false, ◌||◌, ◌==◌, List, [], ◌∷◌, refl, length, arith}
use Rattle.ceal_base.specs.declared.operators.Binary.{Binary as BinaryOp}
use Rattle.ceal_base.specs.declared.operators.Unary.{Unary as UnaryOp}
use Rattle.ceal_code.specs.declared.expr.CodeExpr.{CodeExpr}
use Rattle.ceal_code.specs.declared.expr.CodeExpr.TheBlock.{hidden-the_row-CodeExpr-0, shape-the_row-CodeExpr-0}
use Rattle.ceal_code.specs.declared.expr.CodeExpr.TheVariants.{Num, Null, Var}
use Rattle.ceal_code.specs.declared.expr.CodeExpr.TheViews.{Unary, Binary, Field, Address}
use Rattle.ceal_code.specs.declared.expr.VarId.{VarId}
use Rattle.ceal_fold.specs.Folding.{mentions, all_mention}

pub or-false : (b : Bool) → (b || false) ≡ b
or-false true = refl
or-false false = refl

pub or-assoc : (a b c : Bool) → ((a || b) || c) ≡ (a || (b || c))
or-assoc true b c = refl
or-assoc false b c = refl

module _ (u : ℕ) where
  pub mention-num : (n : ℤ) → mentions (Num n) u ≡ false
  unfolding mentions
  mention-num n = refl

  pub mention-null : mentions Null u ≡ false
  unfolding mentions
  mention-null = refl

  pub mention-var : (w : VarId) → mentions (Var w) u ≡ (w.0 == u)
  unfolding mentions
  mention-var w = refl

  pub mention-unary : (op : UnaryOp) (a : CodeExpr) → mentions (Unary op a) u ≡ mentions a u
  unfolding mentions hidden-the_row-CodeExpr-0 shape-the_row-CodeExpr-0 denote.Hole.Carrier.hidden
  mention-unary op a = refl

  pub mention-binary : (op : BinaryOp) (a b : CodeExpr) → mentions (Binary op a b) u ≡ (mentions a u || mentions b u)
  unfolding mentions hidden-the_row-CodeExpr-0 shape-the_row-CodeExpr-0 denote.Hole.Carrier.hidden
  mention-binary op a b = refl

  pub mention-field : (a : CodeExpr) (s field : ℕ) → mentions (Field a s field) u ≡ mentions a u
  unfolding mentions hidden-the_row-CodeExpr-0 shape-the_row-CodeExpr-0 denote.Hole.Carrier.hidden
  mention-field a s field = refl

  pub mention-address : (a : CodeExpr) (s field : ℕ) → mentions (Address a s field) u ≡ mentions a u
  unfolding mentions hidden-the_row-CodeExpr-0 shape-the_row-CodeExpr-0 denote.Hole.Carrier.hidden
  mention-address a s field = refl

  pub all-cons : (e : CodeExpr) (es : List CodeExpr) → all_mention (e ∷ es) u ≡ (mentions e u || all_mention es u)
  unfolding all_mention
  all-cons e es = refl

  pub all-end : (es : List CodeExpr) → length es ≡ 0 → all_mention es u ≡ false
  unfolding all_mention
  all-end [] h = refl
  all-end (e ∷ es) h = absurd (omega (arith, h))

pub ruleset or_steps = (or-false, or-assoc)

pub ruleset all_steps = (or-false, or-assoc, all-cons, all-end)

pub ruleset mention_steps = (or_steps, mention-num, mention-null, mention-var, mention-unary, mention-binary, mention-field, mention-address)
