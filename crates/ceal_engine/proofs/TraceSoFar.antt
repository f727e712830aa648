-- What a repair that begins makes of the trace of a run.
use Rattle.std.proofs.Common.{◌≡◌, ℕ, Option, Some, None, List, sym, ap, ◌∙◌, subst}
use Rattle.std.specs.Option.{IsSomeAnd}
use Rattle.ceal_base.specs.Block.{Block}
use Rattle.ceal_base.specs.Trace.{Trace}
use Rattle.ceal_base.specs.declared.call.Call.{Call}
use Rattle.ceal_base.specs.declared.word.Word.{Word}
use Rattle.ceal_code.proofs.Words.SameIsEqual.{some-same, none-some}
use Rattle.ceal_code.specs.Program.{Code}
use Rattle.ceal_code.specs.Replay.{IsHonest}
use Rattle.ceal_engine.proofs.Carrying.{opened-whole}
use Rattle.ceal_engine.proofs.Present.{trace-kept, whole-kept}
use Rattle.ceal_engine.proofs.Propagated.{told-run}
use Rattle.ceal_engine.proofs.Repairs.{repaired-of, unchanged-of}
use Rattle.ceal_engine.specs.Engine.{EngineState, IsWhole, fresh_call, stands_for, trace}
use Rattle.ceal_engine.specs.Keeping.{Keeps, forest_in, phase_of, running_in, state_of}
use Rattle.ceal_engine.specs.Repaired.{IsRepaired as IsRepairedTrace, IsUnchanged}
use Rattle.ceal_engine.specs.Runs.{finished, told, opened}
use Rattle.ceal_engine.specs.declared.run.Run.{Run}
use Rattle.ceal_engine.specs.declared.run.Run.TheVariants as its
use Rattle.ceal_engine.specs.declared.run.Stage.{Stage}
use Rattle.ceal_repair.specs.Answers.{IsKeptRun, IsRepaired}
use Rattle.ceal_repair.specs.declared.advance.Progress.{Progress}
use Rattle.ceal_repair.specs.declared.advance.Progress.TheVariants.{Done, Spent}
use Rattle.ceal_repair.specs.declared.running.Running.{Running}

-- what a repair that ended has made of the trace of a run
abbrev SoFar : EngineState → EngineState → Trace → Type 0
SoFar e n l =
    IsSomeAnd (trace n) (IsRepairedTrace n l)
    × (IsHonest e.code e.inputs l → IsUnchanged n l × (n.timeline ≡ e.timeline))

-- what propagation promises of each run of a call
abbrev Repairs : Code → ℕ → List Block → Running → Running → Progress → Type 0
Repairs code fuel inputs old new p =
    (f : ℕ) (args : List Word) (l : Trace) → IsKeptRun code inputs f args fuel l old → old.spent ≡ 0
    → IsRepaired code inputs f args fuel l old new p

module _ (code : Code) (fuel : ℕ) (inputs : List Block) (before : Run) (whole : IsWhole (phase_of before)) (call : Option Call) (keeps : Keeps code fuel inputs before call) (run : Running)
    (is : opened before ≡ Some run)
    (run' : Running) (p : Progress) (repairs : Repairs code fuel inputs run run' p) where
  -- what is true of a call that is there, of the run before it and of the trace of that
  by-parts : (P : Option Call → Run → Type 0)
      → ((c : Call) (b : Running) (g : Stage) (l : Trace) (was : IsKeptRun code inputs c.function c.args fuel l b) → run ≡ told 0 b → IsRepaired code inputs c.function c.args fuel l run run' p
      → P (Some c) (its.Kept b g)) → P call before
  by-parts P f = go before call whole is keeps
    where
      go : (b : Run) (c : Option Call) → IsWhole (phase_of b) → opened b ≡ Some run → Keeps code fuel inputs b c → P c b
      go its.New c w j k = none-some run j
      go (its.Kept b g) None w j k = elim k [ ]
      go (its.Kept b g) (Some c) w j k =
          let kept = whole-kept code fuel inputs c b g k w in
          let own : run ≡ told 0 b = some-same run (told 0 b) (sym j ∙ opened-whole g b w) in
          let old = subst (IsKeptRun code inputs c.function c.args fuel kept.trace) (sym own) (told-run code fuel inputs 0 c.function c.args kept.trace b kept.of) in
          f c b g kept.trace kept.of own (repairs c.function c.args kept.trace old (ap (λ (r : Running). r.spent) own))
      go its.Dropped c w j k = none-some run j

  -- the new trace is the repair of the old one
  pub done-so-far : p ≡ Done → (l : Trace) → stands_for (forest_in (running_in before)) ≡ Some l
      → SoFar (state_of code fuel inputs call before) (finished code fuel inputs call run') l
  done-so-far h =
      by-parts (λ c b. (l : Trace) → stands_for (forest_in (running_in b)) ≡ Some l → SoFar (state_of code fuel inputs c b) (finished code fuel inputs c run') l)
      (λ c b g m was own r l t.
      let same : m ≡ l = some-same m l (sym (trace-kept code fuel inputs c b m was) ∙ t) in
      subst (λ l. SoFar (state_of code fuel inputs (Some c) (its.Kept b g)) (finished code fuel inputs (Some c) run') l) same
      (let old = subst (IsKeptRun code inputs c.function c.args fuel m) (sym own) (told-run code fuel inputs 0 c.function c.args m b was) in
      let d = subst (IsRepaired code inputs c.function c.args fuel m run run') h r in (
        repaired-of code fuel inputs c was.fits m run old run' d,
        λ honest. let u = unchanged-of code fuel inputs c was.fits m run old run' d honest in (u.0, ap Some (u.1 ∙ ap (λ (r : Running). r.tables.trace) own)),
      )))

  -- where the steps do not suffice, those of a run from scratch do not either
  pub spent-fresh : p ≡ Spent → fresh_call code inputs fuel call ≡ None
  spent-fresh h = by-parts (λ c b. fresh_call code inputs fuel c ≡ None) (λ c b g m was own r. subst (IsRepaired code inputs c.function c.args fuel m run run') h r)
