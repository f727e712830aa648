-- The first fault of each form of expression and statement.
use Rattle.std.proofs.Common.{◌≡◌, ℕ, ℤ, Bool, true, Ok, Err, List, [], ◌∷◌, ◌++◌, slice_get, if◌then◌else◌, refl, ◌∙◌, ap}
use Rattle.ceal_base.specs.Faults.{one, faults_of_each}
use Rattle.ceal_base.specs.declared.fault.FaultCode.TheVariants.{U1, U2, U3, U4}
use Rattle.ceal_base.specs.declared.fault.Span.{Span}
use Rattle.ceal_base.specs.declared.kind.Kind.{Kind}
use Rattle.ceal_base.specs.declared.operators.Binary.{Binary as BinaryOp}
use Rattle.ceal_base.specs.declared.operators.Unary.{Unary as UnaryOp}
use Rattle.ceal_base.specs.declared.typed.TypedExpr.{TypedExpr}
use Rattle.ceal_base.specs.declared.typed.TypedForm.{Num, Null, Var, Own}
use Rattle.ceal_base.specs.declared.typed.TypedForm.TheBlock.{hidden-the_row-TypedExpr-0, shape-the_row-TypedExpr-0}
use Rattle.ceal_base.specs.declared.typed.TypedForm.TheViews.{Unary, Binary, Field, Address}
use Rattle.ceal_base.specs.declared.typed.TypedFunction.{TypedFunction}
use Rattle.ceal_base.specs.declared.typed.TypedStmt.{TypedStmt}
use Rattle.ceal_base.specs.declared.typed.TypedStmt.TheBlock.{hidden-the_row-TypedStmt-0, shape-the_row-TypedStmt-0}
use Rattle.ceal_base.specs.declared.typed.TypedStmt.TheVariants.{Declare, Assign, SetField, Write, Call, Return, Break, Continue}
use Rattle.ceal_base.specs.declared.typed.TypedStmt.TheViews.{If, While}
use Rattle.ceal_base.specs.declared.typed.TypedValue.{TypedValue}
use Rattle.ceal_usage.specs.Faults.{form_mentions, mentions, is_core, value_faults, loop_faults, core_faults, row_core_faults, target_faults, init_faults, row_init_faults}
use Rattle.ceal_usage.specs.Verdict.{verdict}
use Rattle.ceal_usage.proofs.VerdictSteps.{before, verdict-append, each-none}

module _ (at : Span) where
  pub mention-num : (n : ℤ) → verdict (form_mentions at (Num n)) ≡ Ok tt
  unfolding form_mentions
  mention-num n = refl

  pub mention-null : verdict (form_mentions at Null) ≡ Ok tt
  unfolding form_mentions
  mention-null = refl

  pub mention-var : (n : ℕ) → verdict (form_mentions at (Var n)) ≡ Ok tt
  unfolding form_mentions
  mention-var n = refl

  pub mention-own : verdict (form_mentions at Own) ≡ Err (record { code = U3; span = at })
  unfolding form_mentions
  mention-own = refl

  pub mention-unary : (op : UnaryOp) (a : TypedExpr) → form_mentions at (Unary op a) ≡ mentions a
  unfolding form_mentions hidden-the_row-TypedExpr-0 shape-the_row-TypedExpr-0 denote.Hole.Carrier.hidden
  mention-unary op a = refl

  pub mention-binary : (op : BinaryOp) (sign : Span) (a b : TypedExpr)
      → verdict (form_mentions at (Binary op sign a b)) ≡ before (verdict (mentions a)) (verdict (mentions b))
  unfolding form_mentions hidden-the_row-TypedExpr-0 shape-the_row-TypedExpr-0 denote.Hole.Carrier.hidden
  mention-binary op sign a b = verdict-append (mentions a) (mentions b)

  pub mention-field : (a : TypedExpr) (s field : ℕ) → form_mentions at (Field a s field) ≡ mentions a
  unfolding form_mentions hidden-the_row-TypedExpr-0 shape-the_row-TypedExpr-0 denote.Hole.Carrier.hidden
  mention-field a s field = refl

  pub mention-address : (a : TypedExpr) (s field : ℕ) → form_mentions at (Address a s field) ≡ mentions a
  unfolding form_mentions hidden-the_row-TypedExpr-0 shape-the_row-TypedExpr-0 denote.Hole.Carrier.hidden
  mention-address a s field = refl

pub ruleset mention_steps = (mention-num, mention-null, mention-var, mention-own, mention-unary, mention-binary, mention-field, mention-address)

module _ (fs : List TypedFunction) (looped : Bool) where
  -- a row has the faults of its list
  pub core-row : (xs : List TypedStmt) → row_core_faults fs looped (hidden-the_row-TypedStmt-0 xs) ≡ faults_of_each (core_faults fs looped) xs
  unfolding core_faults faults_of_each hidden-the_row-TypedStmt-0 shape-the_row-TypedStmt-0 denote.Hole.Carrier.hidden
  core-row [] = refl
  core-row (s ∷ xs) = ap (λ fs-rest. core_faults fs looped s ++ fs-rest) (core-row xs)

  pub core-declare : (at : Span) (n : ℕ) (kind : Kind) (v : TypedValue) → core_faults fs looped (Declare at n kind v) ≡ value_faults fs v
  unfolding core_faults
  core-declare at n kind v = refl

  pub core-assign : (at : Span) (n : ℕ) (v : TypedValue) → core_faults fs looped (Assign at n v) ≡ value_faults fs v
  unfolding core_faults
  core-assign at n v = refl

  pub core-set : (at : Span) (left : TypedExpr) (s field : ℕ) (e : TypedExpr) → core_faults fs looped (SetField at left s field e) ≡ one U1 at
  unfolding core_faults
  core-set at left s field e = refl

  pub core-write : (at : Span) (p e : TypedExpr) → core_faults fs looped (Write at p e) ≡ []
  unfolding core_faults
  core-write at p e = refl

  pub core-call : (at : Span) (f : ℕ) (args : List TypedExpr) → core_faults fs looped (Call at f args) ≡ (if is_core (slice_get fs f) then [] else one U4 at)
  unfolding core_faults
  core-call at f args = refl

  pub core-if : (at : Span) (test : TypedExpr) (first second : List TypedStmt)
      → verdict (core_faults fs looped (If at test first second)) ≡ before (verdict (faults_of_each (core_faults fs looped) first)) (verdict (faults_of_each (core_faults fs looped) second))
  unfolding core_faults
  core-if at test first second = rw (← core-row first, ← core-row second) (verdict-append _ _)

  pub core-break : (at : Span) → core_faults fs looped (Break at) ≡ loop_faults looped at
  unfolding core_faults
  core-break at = refl

  pub core-continue : (at : Span) → core_faults fs looped (Continue at) ≡ loop_faults looped at
  unfolding core_faults
  core-continue at = refl

  pub core-return : (at : Span) → core_faults fs looped (Return at) ≡ []
  unfolding core_faults
  core-return at = refl

pub core-while : (fs : List TypedFunction) (looped : Bool) (at : Span) (test : TypedExpr) (body : List TypedStmt)
    → core_faults fs looped (While at test body) ≡ faults_of_each (core_faults fs true) body
unfolding core_faults
core-while fs looped at test body = core-row fs true body

pub ruleset core_steps = (core-declare, core-assign, core-set, core-write, core-call, core-if, core-while, core-return, core-break, core-continue, each-none)

pub init-row : (xs : List TypedStmt) → row_init_faults (hidden-the_row-TypedStmt-0 xs) ≡ faults_of_each init_faults xs
unfolding init_faults faults_of_each hidden-the_row-TypedStmt-0 shape-the_row-TypedStmt-0 denote.Hole.Carrier.hidden
init-row [] = refl
init-row (s ∷ xs) = ap (λ rest. init_faults s ++ rest) (init-row xs)

pub init-set : (at : Span) (left : TypedExpr) (s field : ℕ) (e : TypedExpr)
    → verdict (init_faults (SetField at left s field e)) ≡ before (verdict (target_faults at left)) (verdict (mentions e))
unfolding init_faults
init-set at left s field e = verdict-append (target_faults at left) (mentions e)

pub init-if : (at : Span) (test : TypedExpr) (first second : List TypedStmt)
    → verdict (init_faults (If at test first second))
    ≡ before (before (verdict (mentions test)) (verdict (faults_of_each init_faults first))) (verdict (faults_of_each init_faults second))
unfolding init_faults
init-if at test first second =
    rw (← init-row first, ← init-row second)
    (verdict-append (mentions test ++ row_init_faults (hidden-the_row-TypedStmt-0 first)) (row_init_faults (hidden-the_row-TypedStmt-0 second))
    ∙ ap (λ v. before v (verdict (row_init_faults (hidden-the_row-TypedStmt-0 second)))) (verdict-append (mentions test) (row_init_faults (hidden-the_row-TypedStmt-0 first))))

module _ (at : Span) where
  pub init-declare : (n : ℕ) (kind : Kind) (v : TypedValue) → verdict (init_faults (Declare at n kind v)) ≡ Err (record { code = U2; span = at })
  unfolding init_faults
  init-declare n kind v = refl

  pub init-assign : (n : ℕ) (v : TypedValue) → verdict (init_faults (Assign at n v)) ≡ Err (record { code = U2; span = at })
  unfolding init_faults
  init-assign n v = refl

  pub init-write : (p e : TypedExpr) → verdict (init_faults (Write at p e)) ≡ Err (record { code = U2; span = at })
  unfolding init_faults
  init-write p e = refl

  pub init-call : (f : ℕ) (args : List TypedExpr) → verdict (init_faults (Call at f args)) ≡ Err (record { code = U2; span = at })
  unfolding init_faults
  init-call f args = refl

  pub init-while : (test : TypedExpr) (body : List TypedStmt) → verdict (init_faults (While at test body)) ≡ Err (record { code = U2; span = at })
  unfolding init_faults
  init-while test body = refl

  pub init-return : verdict (init_faults (Return at)) ≡ Err (record { code = U2; span = at })
  unfolding init_faults
  init-return = refl

  pub init-break : verdict (init_faults (Break at)) ≡ Err (record { code = U2; span = at })
  unfolding init_faults
  init-break = refl

  pub init-continue : verdict (init_faults (Continue at)) ≡ Err (record { code = U2; span = at })
  unfolding init_faults
  init-continue = refl

pub ruleset init_steps = (init-set, init-if, init-declare, init-assign, init-write, init-call, init-while, init-return, init-break, init-continue, each-none)
