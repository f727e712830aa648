use Rattle.std.proofs.Common.{◌≡◌, ◌∙◌, inl, inr, true, ap, sym, subst}
use Rattle.std.proofs.lemmas.Result.{err_from_is_err_and}
use Rattle.ceal_engine.proofs.Advanced.{nothing-carried, on-answer}
use Rattle.ceal_engine.proofs.NoneStale.{none-carried, on-error}
use Rattle.ceal_engine.proofs.Settled.{settled, settled-keeps}
use Rattle.ceal_engine.specs.Advance.{RepairEnds}
use Rattle.ceal_engine.specs.Engine.{EngineState, has_run}
use Rattle.ceal_engine.specs.Partial.{CarriesRepair}
use Rattle.ceal_engine.specs.declared.phase.Phase.TheVariants.{Dropped}
use Rattle.ceal_engine.proofs.engine.Engine.advance.Goals as goal

-- nothing was edited, and the run is its own repair
pub returns-in-Finished-clause-keeps : goal.returns-in-Finished-clause-keeps
returns-in-Finished-clause-keeps c = rw c.tell.ensures (settled-keeps c.args.self.now)

pub returns-in-Finished-clause-outcome : goal.returns-in-Finished-clause-outcome
returns-in-Finished-clause-outcome c =
    let v = c.self.inside in
    rw c.tell.ensures
    (subst (λ (e : EngineState). RepairEnds e (record e { work = 0 }) c.args.reads) c.self.view_is
    (settled v.code v.fuel v.inputs v.call v.run c.self.invariant (sym c.phase.ensures ∙ c.in-Finished.is) c.args.reads c.requires.some))

-- there is a run
pub repair-requires-clause-run : goal.repair-requires-clause-run
repair-requires-clause-run c =
    subst (λ e. has_run e.phase ≡ true) c.self.view_is
    (elim c.in-Pending.is [
      | inl pending ↦ ap has_run (sym c.phase.ensures ∙ pending)
      | inr partial ↦ ap has_run (sym c.phase.ensures ∙ partial)
    ])

-- there is none, and the call runs from nothing
pub returns-in_ok-start-in-Dropped-clause-keeps : goal.returns-in_ok-start-in-Dropped-clause-keeps
returns-in_ok-start-in-Dropped-clause-keeps c = on-answer c.args.self.now c.start.new.self _ _ c.in_ok-start-in-Dropped.ensures.keeps

pub returns-in_ok-start-in-Dropped-clause-outcome : goal.returns-in_ok-start-in-Dropped-clause-outcome
returns-in_ok-start-in-Dropped-clause-outcome c =
    let v = c.self.inside in
    let dropped = sym c.phase.ensures ∙ c.in-Dropped.is in
    record {
      from = inr (subst (λ e. e.phase ≡ Dropped) c.self.view_is dropped);
      slice = λ next r carries. absurd (none-carried v.code v.fuel v.inputs v.call.call v.run dropped next r (subst (λ e. CarriesRepair e next r) (sym c.self.view_is) carries));
      anew = c.in_ok-start-in-Dropped.ensures.anew;
    }

pub returns-in_err-start-in-Dropped-clause-keeps : goal.returns-in_err-start-in-Dropped-clause-keeps
returns-in_err-start-in-Dropped-clause-keeps c =
    let error = err_from_is_err_and c.from_residual.result c.from_residual.ensures.1 in
    rw (error.1, error.2) (on-error c.args.self.now c.start.new.self _ c.in_err-start-in-Dropped.ensures.keeps)

pub returns-in_err-start-in-Dropped-clause-outcome : goal.returns-in_err-start-in-Dropped-clause-outcome
returns-in_err-start-in-Dropped-clause-outcome c =
    let v = c.self.inside in
    let error = err_from_is_err_and c.from_residual.result c.from_residual.ensures.1 in
    rw error.1
    (nothing-carried c.args.self.now c.start.new.self c.args.reads
    (λ next r carries. none-carried v.code v.fuel v.inputs v.call.call v.run (sym c.phase.ensures ∙ c.in-Dropped.is) next r (subst (λ e. CarriesRepair e next r) (sym c.self.view_is) carries)) error.0)
