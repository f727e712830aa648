-- The faults of small bodies.
use Rattle.std.proofs.Common.{◌≡◌, ℕ, false, Some, Err, [], ◌∷◌, refl}
use Rattle.ceal_base.specs.Faults.{faults_of_each}
use Rattle.ceal_base.specs.declared.fault.FaultCode.TheVariants.{U1, U2, U3, U6}
use Rattle.ceal_base.specs.declared.fault.Span.{Span}
use Rattle.ceal_base.specs.declared.kind.Kind.TheVariants.{Int, Ptr}
use Rattle.ceal_base.specs.declared.typed.TypedExpr.{TypedExpr}
use Rattle.ceal_base.specs.declared.typed.TypedForm.{Own}
use Rattle.ceal_base.specs.declared.typed.TypedForm.TheBlock.{hidden-the_row-TypedExpr-0, shape-the_row-TypedExpr-0}
use Rattle.ceal_base.specs.declared.typed.TypedForm.TheViews.{Field}
use Rattle.ceal_base.specs.declared.typed.TypedStmt.TheVariants.{SetField, Return, Break, Continue}
use Rattle.ceal_base.specs.declared.typed.TypedStmt.TheBlock.{hidden-the_row-TypedStmt-0, shape-the_row-TypedStmt-0}
use Rattle.ceal_base.specs.declared.typed.TypedStmt.TheViews.{If, While}
use Rattle.ceal_usage.specs.Faults.{form_mentions, core_faults, init_faults}
use Rattle.ceal_usage.specs.Verdict.{verdict}

abbrev at : ℕ → Span
at n = record { from = n; to = n }

abbrev own : ℕ → TypedExpr
own n = record { span = at n; kind = Some (Ptr 0); form = Own }

abbrev field_of_own : ℕ → TypedExpr
field_of_own n = record { span = at n; kind = Some Int; form = Field (own n) 0 0 }

-- `self->f = self->f;` and then `return;`
initialiser : faults_of_each init_faults (SetField (at 1) (own 1) 0 0 (field_of_own 2) ∷ Return (at 3) ∷ [])
    ≡ record { code = U3; span = at 2 } ∷ record { code = U2; span = at 3 } ∷ []
unfolding faults_of_each init_faults form_mentions hidden-the_row-TypedExpr-0 shape-the_row-TypedExpr-0 denote.Hole.Carrier.hidden
initialiser = refl

-- a field that is written by a core function
core_function : verdict (faults_of_each (core_faults [] false) (Return (at 1) ∷ SetField (at 2) (own 2) 0 0 (own 3) ∷ [])) ≡ Err (record { code = U1; span = at 2 })
unfolding faults_of_each core_faults
core_function = refl

-- `while (..) { if (..) { break; } }` and then `if (..) { continue; }`, which is in no loop
in_no_loop : faults_of_each (core_faults [] false)
    (While (at 1) (own 1) (If (at 2) (own 2) (Break (at 3) ∷ []) [] ∷ []) ∷ If (at 4) (own 4) (Continue (at 5) ∷ []) [] ∷ [])
    ≡ record { code = U6; span = at 5 } ∷ []
unfolding faults_of_each core_faults hidden-the_row-TypedStmt-0 shape-the_row-TypedStmt-0 denote.Hole.Carrier.hidden
in_no_loop = refl
