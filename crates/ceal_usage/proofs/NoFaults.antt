-- There is no fault of usage exactly when the program keeps the rules of usage.
use Rattle.std.proofs.Common.{◌≡◌, ◌↔◌, ℕ, Bool, true, false, is_some, is_none, Option, Some, None, IsOk, List, [], ◌∷◌, ◌++◌, All, slice_get, if◌then◌else◌, refl}
use Rattle.std.proofs.lemmas.List.Elements.{All-nil, All-cons, All-head, All-tail}
use Rattle.ceal_base.specs.Faults.{one, faults_of_each}
use Rattle.ceal_base.specs.Usage.{WithoutOwn, OperandWithoutOwn, IsCore, IsInitialiser, ValueUsage, CoreUsage, RowCoreUsage, InitUsage, RowInitUsage, FunctionUsage, KeepsUsage}
use Rattle.ceal_base.specs.declared.fault.Fault.{Fault}
use Rattle.ceal_base.specs.declared.fault.FaultCode.TheVariants.{U4, U5}
use Rattle.ceal_base.specs.declared.fault.Span.{Span}
use Rattle.ceal_base.specs.declared.typed.Typed.{Typed}
use Rattle.ceal_base.specs.declared.typed.TypedForm.TheBlock.{Row_of-TypedExpr, end_of-TypedExpr, more_of-TypedExpr}
use Rattle.ceal_base.specs.declared.typed.TypedForm.{TypedForm, Num, Null, Var, Own, Unary', Binary', Field', Address'}
use Rattle.ceal_base.specs.declared.typed.TypedFunction.{TypedFunction}
use Rattle.ceal_base.specs.declared.typed.TypedStmt.{TypedStmt, Declare, Assign, SetField, Write, Call, If', While', Return, Break, Continue}
use Rattle.ceal_base.specs.declared.typed.TypedStmt.{Row_of-TypedStmt, end_of-TypedStmt, more_of-TypedStmt}
use Rattle.ceal_base.specs.declared.typed.TypedValue.{TypedValue}
use Rattle.ceal_base.specs.declared.typed.TypedValue.TheVariants.{Plain, Read, Alloc, ModrefInt, Modref}
use Rattle.ceal_usage.specs.Faults.{form_mentions, operand_mentions, is_core, is_initialiser, value_faults}
use Rattle.ceal_usage.specs.Faults.{core_faults, row_core_faults, faults_unless_own, init_faults, row_init_faults}
use Rattle.ceal_usage.specs.Faults.{function_faults, usage_faults}
use Rattle.ceal_usage.specs.Verdict.{verdict}

abbrev nothing : List Fault
nothing = []

none : (nothing ≡ []) ↔ Unit {0}
none = (λ _. tt, λ _. refl)

some : (f : Fault) (fs : List Fault) → (f ∷ fs ≡ []) ↔ ⊥
some f fs = (λ e. cc, λ h. absurd h)

append-both : (a b : List Fault) → a ++ b ≡ [] → (a ≡ []) × (b ≡ [])
append-both [] b e = (refl, e)
append-both (f ∷ a) b e = cc

append-iff : {P Q : Type 0} (a b : List Fault) → (a ≡ []) ↔ P → (b ≡ []) ↔ Q → (a ++ b ≡ []) ↔ (P × Q)
append-iff a b p q =
    (λ e. (p.0 (append-both a b e).0, q.0 (append-both a b e).1), λ h. rw (p.1 h.0, q.1 h.1))

append-three : {P Q R : Type 0} (a b c : List Fault) → (a ≡ []) ↔ P → (b ≡ []) ↔ Q → (c ≡ []) ↔ R → ((a ++ b) ++ c ≡ []) ↔ (P × Q × R)
append-three a b c p q r = (
  λ e. let h = append-both (a ++ b) c e in (p.0 (append-both a b h.0).0, q.0 (append-both a b h.0).1, r.0 h.1),
  λ h. rw (p.1 h.0, q.1 h.1, r.1 h.2),
)

each-iff : {A : Type 0} (faults : A → List Fault) (P : A → Type 0) → ((x : A) → (faults x ≡ []) ↔ P x)
    → (xs : List A) → (faults_of_each faults xs ≡ []) ↔ All P xs
unfolding faults_of_each
each-iff faults P h [] = (λ _. All-nil P, λ _. refl)
each-iff faults P h (x ∷ xs) = (
  λ e. let both = append-both (faults x) (faults_of_each faults xs) e in
      All-cons P x xs ((h x).0 both.0) ((each-iff faults P h xs).0 both.1),
  λ all. rw ((h x).1 (All-head P x xs all), (each-iff faults P h xs).1 (All-tail P x xs all)),
)

test-iff : (b : Bool) (f : Fault) → ((if b then [] else f ∷ []) ≡ []) ↔ (b ≡ true)
test-iff true f = (λ _. refl, λ _. refl)
test-iff false f = (λ e. cc, λ e. cc)

mutual
  unfolding form_mentions WithoutOwn

  pub form-iff : (at : Span) (f : TypedForm) → (form_mentions at f ≡ []) ↔ WithoutOwn f
  form-iff at (Num n) = none
  form-iff at Null = none
  form-iff at (Var n) = none
  form-iff at Own = some _ _
  form-iff at (Unary' op _ a) = operand-iff a
  form-iff at (Binary' op sign _ a _ b) = append-iff _ _ (operand-iff a) (operand-iff b)
  form-iff at (Field' _ a s field) = operand-iff a
  form-iff at (Address' _ a s field) = operand-iff a

  operand-iff : {n : _} (r : Row_of-TypedExpr n) → (operand_mentions r ≡ []) ↔ OperandWithoutOwn r
  operand-iff end_of-TypedExpr = none
  operand-iff (more_of-TypedExpr span kind form rest) = form-iff span form

core-name : (f : Option TypedFunction) (name : Span) → ((if is_core f then [] else one U4 name) ≡ []) ↔ IsCore f
core-name None name = some _ _
core-name (Some f) name =
    elim f.initialiser as (λ i. ((if is_none i then [] else one U4 name) ≡ []) ↔ (is_some i ≡ false))
    [ None ↦ (λ _. refl, λ _. refl) | Some s ↦ (λ e. cc, λ e. cc) ]

initialiser-name : (f : Option TypedFunction) (name : Span) → ((if is_initialiser f then [] else one U5 name) ≡ []) ↔ IsInitialiser f
initialiser-name None name = some _ _
initialiser-name (Some f) name = test-iff (is_some f.initialiser) _

module _ (fs : List TypedFunction) where
  value-iff : (v : TypedValue) → (value_faults fs v ≡ []) ↔ ValueUsage fs v
  value-iff (Plain e) = none
  value-iff (Read at e) = none
  value-iff (Alloc at shape f name args) = initialiser-name (slice_get fs f) name
  value-iff (ModrefInt at) = none
  value-iff (Modref at s) = none

  mutual
    unfolding core_faults CoreUsage

    core-iff : (looped : Bool) (s : TypedStmt) → (core_faults fs looped s ≡ []) ↔ CoreUsage fs looped s
    core-iff looped (Declare at n kind value) = value-iff value
    core-iff looped (Assign at n value) = value-iff value
    core-iff looped (SetField at left s field e) = some _ _
    core-iff looped (Write at place e) = none
    core-iff looped (Call at f args) = core-name (slice_get fs f) at
    core-iff looped (If' at test _ first _ second) = append-iff _ _ (core-row-iff looped first) (core-row-iff looped second)
    core-iff looped (While' at test _ body) = core-row-iff true body
    core-iff looped (Return at) = none
    core-iff looped (Break at) = test-iff looped _
    core-iff looped (Continue at) = test-iff looped _

    core-row-iff : (looped : Bool) {n : _} (r : Row_of-TypedStmt n) → (row_core_faults fs looped r ≡ []) ↔ RowCoreUsage fs looped r
    core-row-iff looped end_of-TypedStmt = none
    core-row-iff looped (more_of-TypedStmt s rest) = append-iff _ _ (core-iff looped s) (core-row-iff looped rest)

own-iff : (f : Fault) (fs : List Fault) (form : TypedForm) → (faults_unless_own (f ∷ fs) form ≡ []) ↔ (form ≡ Own)
own-iff f fs (Num n) = (λ e. cc, λ e. cc)
own-iff f fs Null = (λ e. cc, λ e. cc)
own-iff f fs (Var n) = (λ e. cc, λ e. cc)
own-iff f fs Own = (λ _. refl, λ _. refl)
own-iff f fs (Unary' op _ a) = (λ e. cc, λ e. cc)
own-iff f fs (Binary' op sign _ a _ b) = (λ e. cc, λ e. cc)
own-iff f fs (Field' _ a s field) = (λ e. cc, λ e. cc)
own-iff f fs (Address' _ a s field) = (λ e. cc, λ e. cc)

mutual
  unfolding init_faults InitUsage

  init-iff : (s : TypedStmt) → (init_faults s ≡ []) ↔ InitUsage s
  init-iff (Declare at n kind value) = some _ _
  init-iff (Assign at n value) = some _ _
  init-iff (SetField at left s field e) = append-iff _ _ (own-iff _ _ left.form) (form-iff e.span e.form)
  init-iff (Write at place e) = some _ _
  init-iff (Call at f args) = some _ _
  init-iff (If' at test _ first _ second) = append-three _ _ _ (form-iff test.span test.form) (init-row-iff first) (init-row-iff second)
  init-iff (While' at test _ body) = some _ _
  init-iff (Return at) = some _ _
  init-iff (Break at) = some _ _
  init-iff (Continue at) = some _ _

  init-row-iff : {n : _} (r : Row_of-TypedStmt n) → (row_init_faults r ≡ []) ↔ RowInitUsage r
  init-row-iff end_of-TypedStmt = none
  init-row-iff (more_of-TypedStmt s rest) = append-iff _ _ (init-iff s) (init-row-iff rest)

abbrev BodyUsage : List TypedFunction → List TypedStmt → Option ℕ → Type 0
BodyUsage fs body None = All (CoreUsage fs false) body
BodyUsage fs body (Some s) = All InitUsage body

abbrev body_faults : List TypedFunction → List TypedStmt → Option ℕ → List Fault
body_faults fs body None = faults_of_each (core_faults fs false) body
body_faults fs body (Some s) = faults_of_each init_faults body

body-iff : (fs : List TypedFunction) (body : List TypedStmt) (i : Option ℕ) → (body_faults fs body i ≡ []) ↔ BodyUsage fs body i
body-iff fs body None = each-iff (core_faults fs false) (CoreUsage fs false) (core-iff fs false) body
body-iff fs body (Some s) = each-iff init_faults InitUsage init-iff body

function-iff : (fs : List TypedFunction) (f : TypedFunction) → (function_faults fs f ≡ []) ↔ FunctionUsage fs f
function-iff fs f = body-iff fs f.body f.initialiser

pub usage-iff : (program : Typed) → (usage_faults program ≡ []) ↔ KeepsUsage program
usage-iff program = each-iff (function_faults program.functions) (FunctionUsage program.functions) (function-iff program.functions) program.functions

ok-iff : (fs : List Fault) → IsOk (verdict fs) ↔ (fs ≡ [])
ok-iff [] = (λ _. refl, λ _. refl)
ok-iff (f ∷ fs) = (λ e. cc, λ e. cc)

-- the program passes exactly when it keeps the rules
pub kept-iff : (program : Typed) → IsOk (verdict (usage_faults program)) ↔ KeepsUsage program
kept-iff program = (
  λ ok. (usage-iff program).0 ((ok-iff (usage_faults program)).0 ok),
  λ kept. (ok-iff (usage_faults program)).1 ((usage-iff program).1 kept),
)
