-- Where a program is near, so are its faults of usage.
use Rattle.std.proofs.Common.{ℕ, Bool, true, false, Some, None, List, [], ◌∷◌, ◌++◌}
use Rattle.ceal_base.specs.Faults.{one, faults_of_each}
use Rattle.ceal_base.specs.declared.fault.Fault.{Fault}
use Rattle.ceal_base.specs.declared.fault.FaultCode.{FaultCode}
use Rattle.ceal_base.specs.declared.fault.FaultCode.TheVariants.{U1, U2, U3, U4, U5, U6}
use Rattle.ceal_base.specs.declared.fault.Span.{Span}
use Rattle.ceal_base.specs.declared.typed.Typed.{Typed}
use Rattle.ceal_base.specs.declared.typed.TypedExpr.{TypedExpr}
use Rattle.ceal_base.specs.declared.typed.TypedForm.TheBlock.{Row_of-TypedExpr, end_of-TypedExpr, more_of-TypedExpr}
use Rattle.ceal_base.specs.declared.typed.TypedForm.{TypedForm, Num, Null, Var, Own, Unary', Binary', Field', Address'}
use Rattle.ceal_base.specs.declared.typed.TypedFunction.{TypedFunction}
use Rattle.ceal_base.specs.declared.typed.TypedStmt.{TypedStmt, Declare, Assign, SetField, Write, Call, If', While', Return, Break, Continue}
use Rattle.ceal_base.specs.declared.typed.TypedStmt.{Row_of-TypedStmt, end_of-TypedStmt, more_of-TypedStmt}
use Rattle.ceal_base.specs.declared.typed.TypedValue.{TypedValue}
use Rattle.ceal_base.specs.declared.typed.TypedValue.TheVariants.{Plain, Read, Alloc, ModrefInt, Modref}
use Rattle.ceal_usage.specs.Faults.{form_mentions, operand_mentions, mentions, value_mentions, value_faults}
use Rattle.ceal_usage.specs.Faults.{core_faults, row_core_faults, faults_unless_own, init_faults, row_init_faults}
use Rattle.ceal_usage.specs.Faults.{function_faults, usage_faults}
use Rattle.ceal_serve.proofs.Places.Near.{Near, Each, FaultNear, AllNear, none, both, one-near, unless-near}
use Rattle.ceal_serve.proofs.Places.Near.{TypedFormNear, TypedOperandNear, TypedNear, TypedValueNear, TypedStmtNear, TypedStmtsNear, FunctionNear}

module _ (n : ℕ) where
  abbrev pub All : List Fault → Type 0
  All fs = AllNear n fs

  each-near : {A : Type 0} (P : A → Type 0) (faults : A → List Fault) → ((x : A) → P x → All (faults x)) → (xs : List A) → Each P xs → All (faults_of_each faults xs)
  unfolding Each faults_of_each
  each-near P faults near [] h = tt
  each-near P faults near (x ∷ xs) h = both n (faults x) (faults_of_each faults xs) (near x h.0) (each-near P faults near xs h.1)

  mutual
    unfolding form_mentions TypedFormNear

    forms-near : (at : Span) (form : TypedForm) → Near n at → TypedFormNear n form → All (form_mentions at form)
    forms-near at (Num v) s h = none n
    forms-near at Null s h = none n
    forms-near at (Var x) s h = none n
    forms-near at Own s h = one-near n U3 at s
    forms-near at (Unary' op _ a) s h = operands-near a h
    forms-near at (Binary' op sign _ a _ b) s h = both n _ _ (operands-near a h.0) (operands-near b h.1)
    forms-near at (Field' _ a t field) s h = operands-near a h
    forms-near at (Address' _ a t field) s h = operands-near a h

    operands-near : {k : _} (a : Row_of-TypedExpr k) → TypedOperandNear n a → All (operand_mentions a)
    operands-near end_of-TypedExpr h = none n
    operands-near (more_of-TypedExpr span kind form rest) h = forms-near span form h.0 h.1

  mentions-near : (x : TypedExpr) → TypedNear n x → All (mentions x)
  mentions-near x h = forms-near x.span x.form h.0 h.1

  mentioned-near : (v : TypedValue) → TypedValueNear n v → All (value_mentions v)
  mentioned-near (Plain x) h = mentions-near x h
  mentioned-near (Read at x) h = mentions-near x h
  mentioned-near (Alloc at shape f name args) h = each-near (TypedNear n) mentions mentions-near args h.1
  mentioned-near (ModrefInt at) h = none n
  mentioned-near (Modref at s) h = none n

  values-near : (fs : List TypedFunction) (v : TypedValue) → TypedValueNear n v → All (value_faults fs v)
  values-near fs (Plain x) h = none n
  values-near fs (Read at x) h = none n
  values-near fs (Alloc at shape f name args) h = unless-near n _ U5 name h.0
  values-near fs (ModrefInt at) h = none n
  values-near fs (Modref at s) h = none n

  module _ (fs : List TypedFunction) where
    mutual
      unfolding core_faults TypedStmtNear

      core-near : (looped : Bool) (s : TypedStmt) → TypedStmtNear n s → All (core_faults fs looped s)
      core-near looped (Declare at x kind value) h = values-near fs value h.1
      core-near looped (Assign at x value) h = values-near fs value h.1
      core-near looped (SetField at left s field e) h = one-near n U1 at h.0
      core-near looped (Write at place e) h = none n
      core-near looped (Call at f args) h = unless-near n _ U4 at h.0
      core-near looped (If' at test _ first _ second) h = both n _ _ (core-rows-near looped first h.2) (core-rows-near looped second h.3)
      core-near looped (While' at test _ body) h = core-rows-near true body h.2
      core-near looped (Return at) h = none n
      core-near looped (Break at) h = unless-near n looped U6 at h
      core-near looped (Continue at) h = unless-near n looped U6 at h

      core-rows-near : (looped : Bool) {k : _} (r : Row_of-TypedStmt k) → TypedStmtsNear n r → All (row_core_faults fs looped r)
      core-rows-near looped end_of-TypedStmt h = none n
      core-rows-near looped (more_of-TypedStmt s rest) h = both n _ _ (core-near looped s h.0) (core-rows-near looped rest h.1)

  target-near : (faults : List Fault) (form : TypedForm) → All faults → All (faults_unless_own faults form)
  target-near faults (Num v) h = h
  target-near faults Null h = h
  target-near faults (Var x) h = h
  target-near faults Own h = none n
  target-near faults (Unary' op _ a) h = h
  target-near faults (Binary' op at _ a _ b) h = h
  target-near faults (Field' _ a s field) h = h
  target-near faults (Address' _ a s field) h = h

  mutual
    unfolding init_faults TypedStmtNear

    init-near : (s : TypedStmt) → TypedStmtNear n s → All (init_faults s)
    init-near (Declare at x kind value) h = both n _ _ (one-near n U2 at h.0) (mentioned-near value h.1)
    init-near (Assign at x value) h = both n _ _ (one-near n U2 at h.0) (mentioned-near value h.1)
    init-near (SetField at left s field e) h =
        both n _ _ (target-near (one U1 at ++ mentions left) left.form (both n _ _ (one-near n U1 at h.0) (mentions-near left h.1))) (mentions-near e h.2)
    init-near (Write at place e) h = both n _ _ (both n _ _ (one-near n U2 at h.0) (mentions-near place h.1)) (mentions-near e h.2)
    init-near (Call at f args) h = both n _ _ (one-near n U2 at h.0) (each-near (TypedNear n) mentions mentions-near args h.1)
    init-near (If' at test _ first _ second) h = both n _ _ (both n _ _ (mentions-near test h.1) (init-rows-near first h.2)) (init-rows-near second h.3)
    init-near (While' at test _ body) h = both n _ _ (both n _ _ (one-near n U2 at h.0) (mentions-near test h.1)) (init-rows-near body h.2)
    init-near (Return at) h = one-near n U2 at h
    init-near (Break at) h = one-near n U2 at h
    init-near (Continue at) h = one-near n U2 at h

    init-rows-near : {k : _} (r : Row_of-TypedStmt k) → TypedStmtsNear n r → All (row_init_faults r)
    init-rows-near end_of-TypedStmt h = none n
    init-rows-near (more_of-TypedStmt s rest) h = both n _ _ (init-near s h.0) (init-rows-near rest h.1)

  functions-near : (fs : List TypedFunction) (f : TypedFunction) → FunctionNear n f → All (function_faults fs f)
  functions-near fs f h = elim f.initialiser as (λ i. All (elim i [
    | None ↦ faults_of_each (core_faults fs false) f.body
    | Some s ↦ faults_of_each init_faults f.body
  ])) [
    | None ↦ each-near (TypedStmtNear n) (core_faults fs false) (core-near fs false) f.body h.0
    | Some s ↦ each-near (TypedStmtNear n) init_faults init-near f.body h.0
  ]

  pub usage-near : (p : Typed) → Each (FunctionNear n) p.functions → All (usage_faults p)
  usage-near p h = each-near (FunctionNear n) (function_faults p.functions) (functions-near p.functions) p.functions h
