use Rattle.std.proofs.Common.{◌≡◌, None, refl, ap, ◌∙◌, sym, subst}
use Rattle.ceal_engine.specs.Cost.{CostOfCall}
use Rattle.ceal_session.proofs.Moves.StateAfterRun.{advanced, holds-behind}
use Rattle.ceal_session.proofs.Engine.ProgramAndCode.{call-fits}
use Rattle.ceal_session.specs.Marks.{KeepsMarks}
use Rattle.ceal_session.specs.Outcomes.{phase_after_outcome, SituationAfterOutcome}
use Rattle.ceal_session.specs.SessionState.{state_of, situation, situation_of}
use Rattle.ceal_session.specs.Steps.{IsCall}
use Rattle.ceal_session.proofs.state.State.start.Goals as goal

pub first_run-came-requires-clause-new : goal.first_run-came-requires-clause-new
first_run-came-requires-clause-new c = c.phase-before.ensures.whole.new (subst (λ m. m.state.call ≡ None) (sym c.self.view_is) c.requires.none)

-- the call fits the inputs, since its line was accepted
pub first_run-came-requires-clause-fits : goal.first_run-came-requires-clause-fits
first_run-came-requires-clause-fits c =
    let i = c.self.inside in
    call-fits i.program i.engine.code c.self.invariant.compiled.code c.self.invariant.compiled.valid
    (state_of i.program i.names i.engine i.journal i.pending) c.args.call.now.function c.args.call.now.args refl c.phase-before.ensures.whole.inputs
    (subst (λ m. IsCall m.state c.args.call.now) (sym c.self.view_is) c.requires.fits)

pub settle-requires : goal.settle-requires
settle-requires c = λ e. c.first_run-came.ensures.brings.phase ∙ ap phase_after_outcome e

-- the engine has run the call, and the journal begins with it
pub invariant_of-self : goal.invariant_of-self
invariant_of-self c =
    let i = c.self.inside in
    let o = c.first_run-came in
    rw (c.settle.ensures, c.goes_on-self-inside.ensures)
    (holds-behind i.program i.names i.engine i.journal i.pending c.self.invariant c.args.call.now
    (call-fits i.program i.engine.code c.self.invariant.compiled.code c.self.invariant.compiled.valid
    (state_of i.program i.names i.engine i.journal i.pending) c.args.call.now.function c.args.call.now.args refl c.phase-before.ensures.whole.inputs
    (subst (λ m. IsCall m.state c.args.call.now) (sym c.self.view_is) c.requires.fits))
    None o.new.engine c.phase-after.ensures.whole o.result o.ensures.brings)

-- the situation after the first run of the call
pub returns-clause-outcome : goal.returns-clause-outcome
returns-clause-outcome c =
    let i = c.self.inside in
    let o = c.first_run-came in
    subst (λ m. SituationAfterOutcome (situation m) c.args.call.now None o.result (situation_of i.program i.names o.new.engine c.settle.new.journal c.goes_on-self-inside.result)) c.self.view_is
    (rw (c.settle.ensures, c.goes_on-self-inside.ensures)
    (advanced i.program i.names i.engine i.journal i.pending c.self.invariant c.args.call.now
    (call-fits i.program i.engine.code c.self.invariant.compiled.code c.self.invariant.compiled.valid
    (state_of i.program i.names i.engine i.journal i.pending) c.args.call.now.function c.args.call.now.args refl c.phase-before.ensures.whole.inputs
    (subst (λ m. IsCall m.state c.args.call.now) (sym c.self.view_is) c.requires.fits))
    None o.new.engine c.phase-after.ensures.whole o.result o.ensures.brings))

pub returns-clause-cost : goal.returns-clause-cost
returns-clause-cost c =
    let o = c.first_run-came in
    subst (λ m. CostOfCall m.engine o.new.engine) c.self.view_is o.ensures.brings.cost

pub returns-clause-marks : goal.returns-clause-marks
returns-clause-marks c =
    let o = c.first_run-came in
    subst (λ m. KeepsMarks m.engine o.new.engine) c.self.view_is o.ensures.brings.marks
