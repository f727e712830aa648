-- A finished run that is propagated, and a run of which another amount of work is told.
use Rattle.std.proofs.Common.{◌≡◌, ℕ, Option, Some, None, List, refl, sym, ◌∙◌, subst, arith}
use Rattle.std.specs.Option.{IsSomeAnd}
use Rattle.ceal_base.specs.Block.{Block}
use Rattle.ceal_base.specs.Trace.{Trace}
use Rattle.ceal_base.specs.declared.call.Call.{Call}
use Rattle.ceal_base.specs.declared.word.Word.{Word}
use Rattle.ceal_code.proofs.Words.SameIsEqual.{some-same, none-some}
use Rattle.ceal_code.specs.Program.{Code}
use Rattle.ceal_engine.proofs.Present.{trace-kept, by-run}
use Rattle.ceal_engine.proofs.Repairs.{still-repaired}
use Rattle.ceal_engine.specs.Engine.{EngineState, IsPresent, IsWhole, stands_for}
use Rattle.ceal_engine.specs.Keeping.{forest_in, phase_of, running_in, state_of, Keeps}
use Rattle.ceal_engine.specs.Repaired.{IsRepaired}
use Rattle.ceal_engine.specs.Runs.{told, told_of}
use Rattle.ceal_engine.specs.declared.phase.Phase.TheVariants.{Finished as IsFinished}
use Rattle.ceal_engine.specs.declared.run.Run.{Run}
use Rattle.ceal_engine.specs.declared.run.Run.TheVariants as its
use Rattle.ceal_engine.specs.declared.run.Stage.TheVariants as stage
use Rattle.ceal_repair.specs.Answers.{IsKeptRun}
use Rattle.ceal_repair.specs.declared.running.Running.{Running}

-- the work is no matter of the memory
pub present-told : (e : EngineState) (work : ℕ) → IsPresent e → IsPresent (record e { work = work })
present-told e work p = record {
  run = p.run;
  fresh = p.fresh;
  is = record { numbers = p.is.numbers; same = p.is.same; only = p.is.only; steps = p.is.steps; live = p.is.live; fits = p.is.fits };
}

module _ (code : Code) (fuel : ℕ) (inputs : List Block) where
  -- in Finished nothing needs to be done
  pub finished-clause : (run : Run) (call : Option Call) → Keeps code fuel inputs run call → phase_of run ≡ IsFinished → (l : Trace) → stands_for (forest_in (running_in run)) ≡ Some l
      → IsSomeAnd (stands_for (forest_in (running_in run))) (IsRepaired (record (state_of code fuel inputs call run) { work = 0 }) l)
  finished-clause run call keeps = by-run code fuel inputs
      (λ r c. phase_of r ≡ IsFinished → (l : Trace) → stands_for (forest_in (running_in r)) ≡ Some l
      → IsSomeAnd (stands_for (forest_in (running_in r))) (IsRepaired (record (state_of code fuel inputs c r) { work = 0 }) l))
      (λ p l e. none-some l e) (λ c p l e. none-some l e)
      (λ c r s k p l e. subst (λ o. IsSomeAnd o (IsRepaired (record (state_of code fuel inputs (Some c) (its.Kept r s)) { work = 0 }) l)) (sym e)
      (subst (λ l. IsRepaired (record (state_of code fuel inputs (Some c) (its.Kept r s)) { work = 0 }) l l) (some-same k.trace l (sym (trace-kept code fuel inputs c r k.trace k.of) ∙ e))
      (still-repaired code fuel inputs c k.of.fits k.trace r k.of (its.Kept r s) (k.honest p))))
      (λ c r k p. absurd (grind (arith, p)))
      run call keeps

  -- ---- a run of which some work is told

  pub told-run : (work f : ℕ) (args : List Word) (l : Trace) (run : Running) → IsKeptRun code inputs f args fuel l run → IsKeptRun code inputs f args fuel l (told work run)
  told-run work f args l run k = record {
    stands = record { kept = k.stands.kept; nests = k.stands.nests; items = k.stands.items; words = k.stands.words; released = k.stands.released; slots = k.stands.slots; blocks = k.stands.blocks };
    fits = k.fits;
    replays = k.replays;
    few = k.few;
    numbers = k.numbers;
  }

  pub keeps-told : (work : ℕ) (run : Run) (call : Option Call) → IsWhole (phase_of run) → Keeps code fuel inputs run call → Keeps code fuel inputs (told_of work run) call
  keeps-told work its.New call w k = k
  keeps-told work (its.Kept run s) None w k = elim k [ ]
  keeps-told work (its.Kept run stage.Finished) (Some call) w k = record { trace = k.trace; of = told-run work call.function call.args k.trace run k.of; honest = k.honest; idle = k.idle }
  keeps-told work (its.Kept run stage.Pending) (Some call) w k = (k.0, told-run work call.function call.args k.0 run k.1)
  keeps-told work (its.Kept run stage.Partial) (Some call) w k = absurd (grind (arith, w))
  keeps-told work its.Dropped call w k = k

  -- where there is a run, nothing else of the engine changes
  pub told-state : (work : ℕ) (call : Option Call) (run : Run) → phase_of run ≡ IsFinished
      → state_of code fuel inputs call (told_of work run) ≡ record (state_of code fuel inputs call run) { work = work }
  told-state work call its.New e = absurd (grind (arith, e))
  told-state work call (its.Kept run s) e = refl
  told-state work call its.Dropped e = absurd (grind (arith, e))
