-- The variables that each form of expression and statement mentions.
use Rattle.std.proofs.Common.{◌≡◌, ℕ, ℤ, ◌+◌, ◌<◌, List, [], ◌∷◌, ◌++◌, length, take, get_or, refl, append_assoc}
use Rattle.std.proofs.lemmas.List.{take_more, append-nil}
use Rattle.ceal_base.specs.declared.fault.Span.{Span}
use Rattle.ceal_base.specs.declared.operators.Binary.{Binary as BinaryOp}
use Rattle.ceal_base.specs.declared.operators.Unary.{Unary as UnaryOp}
use Rattle.ceal_base.specs.declared.typed.TypedExpr.{TypedExpr}
use Rattle.ceal_base.specs.declared.typed.TypedForm.{Num, Null, Var, Own}
use Rattle.ceal_base.specs.declared.typed.TypedForm.TheBlock.{hidden-the_row-TypedExpr-0, shape-the_row-TypedExpr-0}
use Rattle.ceal_base.specs.declared.typed.TypedForm.TheViews.{Unary, Binary, Field, Address}
use Rattle.ceal_base.specs.declared.typed.TypedStmt.{TypedStmt}
use Rattle.ceal_base.specs.declared.typed.TypedStmt.TheViews.{If, While}
use Rattle.ceal_flow.specs.Live.{form_mentions, mentions, all_mentions, stmt_uses}

pub mention-num : (n : ℤ) → form_mentions (Num n) ≡ []
unfolding form_mentions
mention-num n = refl

pub mention-null : form_mentions Null ≡ []
unfolding form_mentions
mention-null = refl

pub mention-var : (n : ℕ) → form_mentions (Var n) ≡ n ∷ []
unfolding form_mentions
mention-var n = refl

pub mention-own : form_mentions Own ≡ []
unfolding form_mentions
mention-own = refl

pub mention-unary : (op : UnaryOp) (a : TypedExpr) → form_mentions (Unary op a) ≡ mentions a
unfolding form_mentions hidden-the_row-TypedExpr-0 shape-the_row-TypedExpr-0 denote.Hole.Carrier.hidden
mention-unary op a = refl

pub mention-binary : (op : BinaryOp) (at : Span) (a b : TypedExpr) → form_mentions (Binary op at a b) ≡ mentions a ++ mentions b
unfolding form_mentions hidden-the_row-TypedExpr-0 shape-the_row-TypedExpr-0 denote.Hole.Carrier.hidden
mention-binary op at a b = refl

pub mention-field : (a : TypedExpr) (s field : ℕ) → form_mentions (Field a s field) ≡ mentions a
unfolding form_mentions hidden-the_row-TypedExpr-0 shape-the_row-TypedExpr-0 denote.Hole.Carrier.hidden
mention-field a s field = refl

pub mention-address : (a : TypedExpr) (s field : ℕ) → form_mentions (Address a s field) ≡ mentions a
unfolding form_mentions hidden-the_row-TypedExpr-0 shape-the_row-TypedExpr-0 denote.Hole.Carrier.hidden
mention-address a s field = refl

pub all-none : all_mentions [] ≡ []
unfolding all_mentions
all-none = refl

all-append : (xs ys : List TypedExpr) → all_mentions (xs ++ ys) ≡ all_mentions xs ++ all_mentions ys
unfolding all_mentions
all-append [] ys = refl
all-append (x ∷ xs) ys = rw (all-append xs ys, append_assoc) refl

all-one : (e : TypedExpr) → all_mentions (e ∷ []) ≡ mentions e
unfolding all_mentions
all-one e = append-nil (mentions e)

-- one expression more
pub all-take : (es : List TypedExpr) (i : ℕ) (e : TypedExpr) → e ≡ get_or es i e → i < length es → all_mentions (take (i + 1) es) ≡ all_mentions (take i es) ++ mentions e
all-take es i e is h = rw (take_more es i e h, ← is, all-append, all-one) refl

pub uses-if : (at : Span) (test : TypedExpr) (first second : List TypedStmt) → stmt_uses (If at test first second) ≡ mentions test
uses-if at test first second = refl

pub uses-while : (at : Span) (test : TypedExpr) (body : List TypedStmt) → stmt_uses (While at test body) ≡ mentions test
uses-while at test body = refl

pub ruleset joins = (append_assoc, append-nil)

pub ruleset mention_steps = (joins, mention-num, mention-null, mention-var, mention-own, mention-unary, mention-binary, mention-field, mention-address)

pub ruleset all_steps = (joins, all-none)

pub ruleset stmt_steps = (joins, uses-if, uses-while)
