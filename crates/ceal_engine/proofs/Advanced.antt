-- What callers know of `advance`, and what they make of it.
use Rattle.std.proofs.Common.{◌≡◌, ◌⊎◌, inl, inr, ℕ, false, Ok, Err, Option, Some, None, refl, sym, ◌∙◌, subst}
use Rattle.std.proofs.lemmas.Bool.{false≢true}
use Rattle.std.specs.Prelude.{Result}
use Rattle.ceal_engine.proofs.NoneStale.{on-error}
use Rattle.ceal_engine.specs.Advance.{AdvanceOutcome, IsAdvanced, IsAdvancedBy, IsAdvancedToEnd}
use Rattle.ceal_engine.specs.Calls.{Advances, IsRunAnew}
use Rattle.ceal_engine.specs.Engine.{EngineState, IsPresent, has_run}
use Rattle.ceal_engine.specs.Partial.{CarriesRepair, progress_of}
use Rattle.ceal_engine.specs.declared.phase.Came.{Came}
use Rattle.ceal_engine.specs.declared.phase.Came.TheVariants as came
use Rattle.ceal_engine.specs.declared.phase.Phase.TheVariants.{Finished}
use Rattle.ceal_engine.specs.declared.phase.Progress.{Progress}
use Rattle.ceal_engine.specs.declared.run_error.RunError.{RunError}
use Rattle.ceal_engine.specs.declared.run_error.RunError.TheVariants.{Memory, OutOfFuel}
use Rattle.ceal_theory.specs.Repair.{own}
use Rattle.ceal_theory.specs.Slices.{Repair, sliced}

-- where there is no slice within the fuel, none is after an error either
pub out-of-fuel : (e n : EngineState) (reads : Option ℕ) → ((next : ℕ) (r : Repair) → CarriesRepair e next r → sliced e.code own e.inputs reads e.fuel r ≡ None) → (error : RunError)
    → AdvanceOutcome e n reads (Err error)
out-of-fuel e n reads none Memory = tt
out-of-fuel e n reads none OutOfFuel = λ next r carries. inl (none next r carries)

-- and where no repair is carried there is nothing to say of one
pub nothing-carried : (e n : EngineState) (reads : Option ℕ) → ((next : ℕ) (r : Repair) → CarriesRepair e next r → ⊥) → (error : RunError) → AdvanceOutcome e n reads (Err error)
nothing-carried e n reads none Memory = tt
nothing-carried e n reads none OutOfFuel = λ next r carries. absurd (none next r carries)

-- after an answer its type does not matter
pub on-answer : {A B : Type 0} (e n : EngineState) (x : A) (y : B) → Advances {A = A} e n (Ok x) → Advances {A = B} e n (Ok y)
on-answer e n x y a = record {
  code = a.code;
  fuel = a.fuel;
  inputs = a.inputs;
  call = a.call;
  sure_where_honest = λ w l t h. refl;
  sure_in_part = λ l t h. tt;
  out_of_fuel = tt;
  dropped = tt;
}

-- what stays where all was advanced
pub end-keeps : {A : Type 0} (e n : EngineState) (result : Result A RunError) → IsAdvancedToEnd e n result → Advances e n result
end-keeps e n (Ok x) (inl a) = on-answer e n came.Done x a.keeps
end-keeps e n (Ok x) (inr a) = on-answer e n came.Anew x a.keeps
end-keeps e n (Err error) a = on-error e n error a.keeps

-- an end is no part
pub to-end : (e n : EngineState) (far : Came) → IsAdvanced e n None (Ok far) → IsAdvanced e n None (Ok came.Done) ⊎ IsAdvanced e n None (Ok came.Anew)
to-end e n came.More a = absurd (false≢true a.outcome.given)
to-end e n came.Done a = inl a
to-end e n came.Anew a = inr a

pub ended-phase : (e n : EngineState) → IsAdvanced e n None (Ok came.Done) ⊎ IsAdvanced e n None (Ok came.Anew) → n.phase ≡ Finished
ended-phase e n (inl a) = a.outcome.phase
ended-phase e n (inr a) = a.outcome.anew.phase

pub ended-present : (e n : EngineState) → IsAdvanced e n None (Ok came.Done) ⊎ IsAdvanced e n None (Ok came.Anew) → IsPresent n
ended-present e n (inl a) = a.outcome.present
ended-present e n (inr a) = a.outcome.anew.present

-- where there was no run the call was run from nothing
pub ran : (e n : EngineState) → has_run e.phase ≡ false → IsAdvanced e n None (Ok came.Done) ⊎ IsAdvanced e n None (Ok came.Anew) → IsRunAnew n
ran e n none (inl a) = absurd (false≢true (sym none ∙ a.outcome.repairs.run))
ran e n none (inr a) = a.outcome.anew

-- a slice answers Done where the call was run from nothing
pub by-progress : (e n : EngineState) (reads : ℕ) (far : Came) → IsAdvanced e n (Some reads) (Ok far) → (p : Progress) → p ≡ progress_of far → IsAdvancedBy e n reads (Ok p)
by-progress e n reads came.More a p is = subst (λ q. IsAdvancedBy e n reads (Ok q)) (sym is) a
by-progress e n reads came.Done a p is = subst (λ q. IsAdvancedBy e n reads (Ok q)) (sym is) (inl a)
by-progress e n reads came.Anew a p is = subst (λ q. IsAdvancedBy e n reads (Ok q)) (sym is) (inr a)
