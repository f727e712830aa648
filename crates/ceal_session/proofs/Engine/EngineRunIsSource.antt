-- The run that an engine has is the source's.
use Rattle.std.proofs.Common.{◌≡◌, ℕ, Bool, Option, Some, None, List, refl, sym, ◌∙◌, arith}
use Rattle.std.specs.Prelude.{IfSome}
use Rattle.ceal_base.specs.Block.{alone}
use Rattle.ceal_base.specs.Finished.{Finished}
use Rattle.ceal_base.specs.declared.call.Call.{Call}
use Rattle.ceal_base.specs.declared.typed.Typed.{Typed}
use Rattle.ceal_code.specs.Fitting.{Fits}
use Rattle.ceal_engine.specs.Engine.{EngineState, IsRun, IsEngine, fresh_call, fresh_of}
use Rattle.ceal_engine.specs.declared.phase.Phase.{Phase}
use Rattle.ceal_engine.specs.declared.phase.Phase.TheVariants.{New, Finished as IsFinished, Pending, Partial, Dropped}
use Rattle.ceal_session.proofs.Engine.ProgramAndCode.{core-of}
use Rattle.ceal_session.specs.Questions.{IsReady}
use Rattle.ceal_session.specs.Journal.{JournalState}
use Rattle.ceal_session.specs.SessionState.{state_of, SessionInvariant}
use Rattle.ceal_session.specs.Runs.{run_of_call, present_run}

module _ (p : Typed) (names : List (List ℕ)) (e : EngineState) (j : JournalState) (pending : Bool) (h : SessionInvariant p names e j pending) where
  pub code-run : (o : Option Call) → IfSome o (λ call. Fits e.code e.inputs call.function call.args) → run_of_call (state_of p names e j pending) o ≡ fresh_call e.code e.inputs e.fuel o
  code-run None f = refl
  code-run (Some call) f =
      sym (h.compiled.means call.function call.args e.inputs e.fuel (core-of p e.code h.compiled.code e.code.structs (alone e.inputs) call.args call.function f.words))

  module _ (k : IsEngine e) where
    pub source-fresh : present_run (state_of p names e j pending) ≡ fresh_of e
    source-fresh = code-run e.call k.call

    -- a question finds a finished run
    pub ready-finished : IsReady (state_of p names e j pending) → e.phase ≡ IsFinished
    ready-finished r = go e.phase refl
      where
        go : (phase : Phase) → e.phase ≡ phase → e.phase ≡ IsFinished
        go New i = absurd (grind (arith, r.run, k.uncalled i, i))
        go IsFinished i = i
        go Pending i = absurd (grind (arith, h.edited i, r.edited))
        go Partial i = absurd (grind (arith, h.partial i, r.edited))
        go Dropped i = absurd (grind (arith, r.run, i))

    pub record HasRun : Type 0 where
      pub run : Finished
      pub fresh : present_run (state_of p names e j pending) ≡ Some run
      pub is : IsRun e run

    pub has-run : IsReady (state_of p names e j pending) → HasRun
    has-run r = let g = k.present (ready-finished r) in record { run = g.run; fresh = source-fresh ∙ g.fresh; is = g.is }
