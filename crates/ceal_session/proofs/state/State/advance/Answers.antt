use Rattle.std.proofs.Common.{◌≡◌, true, Some, is_some, ap, ◌∙◌, sym, subst}
use Rattle.ceal_engine.specs.Cost.{CostOfCall}
use Rattle.ceal_session.proofs.Engine.EngineKeepsPast.{after-advance}
use Rattle.ceal_session.proofs.Moves.StateAfterRun.{advanced, holds-behind, not-new, the-call, fits-of}
use Rattle.ceal_session.specs.Marks.{KeepsMarks}
use Rattle.ceal_session.specs.Outcomes.{phase_after_outcome, SituationAfterOutcome}
use Rattle.ceal_session.specs.SessionState.{situation, situation_of}
use Rattle.ceal_session.proofs.state.State.advance.Goals as goal

pub advance-came-requires-clause-called : goal.advance-came-requires-clause-called
advance-came-requires-clause-called c = not-new c.self.inside.engine c.phase-before.ensures.whole (subst (λ m. is_some m.state.call ≡ true) (sym c.self.view_is) c.requires.called)

pub settle-requires : goal.settle-requires
settle-requires c =
    let i = c.self.inside in
    let o = c.advance-came in
    let g = the-call i.engine (subst (λ m. is_some m.state.call ≡ true) (sym c.self.view_is) c.requires.called) in
    λ e. (after-advance i.engine o.new.self c.phase-before.ensures.whole g.0 g.1 c.args.reads o.result o.ensures.keeps o.ensures.outcome).phase ∙ ap phase_after_outcome e

-- the engine was brought forward, and the journal says with which outcome
pub invariant_of-self : goal.invariant_of-self
invariant_of-self c =
    let i = c.self.inside in
    let o = c.advance-came in
    let g = the-call i.engine (subst (λ m. is_some m.state.call ≡ true) (sym c.self.view_is) c.requires.called) in
    rw (c.settle.ensures, c.goes_on-self-inside.ensures)
    (holds-behind i.program i.names i.engine i.journal i.pending c.self.invariant g.0 (fits-of i.engine c.phase-before.ensures.whole g.0 g.1)
    c.args.reads o.new.self c.phase-after.ensures.whole o.result
    (after-advance i.engine o.new.self c.phase-before.ensures.whole g.0 g.1 c.args.reads o.result o.ensures.keeps o.ensures.outcome))

-- the situation after it, by the outcome
pub returns-clause-outcome : goal.returns-clause-outcome
returns-clause-outcome c =
    let i = c.self.inside in
    let o = c.advance-came in
    λ call again.
    let same = subst (λ m. m.state.call ≡ Some call) (sym c.self.view_is) again in
    subst (λ m. SituationAfterOutcome (situation m) call c.args.reads o.result (situation_of i.program i.names o.new.self c.settle.new.journal c.goes_on-self-inside.result)) c.self.view_is
    (rw (c.settle.ensures, c.goes_on-self-inside.ensures)
    (advanced i.program i.names i.engine i.journal i.pending c.self.invariant call (fits-of i.engine c.phase-before.ensures.whole call same)
    c.args.reads o.new.self c.phase-after.ensures.whole o.result
    (after-advance i.engine o.new.self c.phase-before.ensures.whole call same c.args.reads o.result o.ensures.keeps o.ensures.outcome)))

pub returns-clause-cost : goal.returns-clause-cost
returns-clause-cost c =
    let i = c.self.inside in
    let o = c.advance-came in
    let g = the-call i.engine (subst (λ m. is_some m.state.call ≡ true) (sym c.self.view_is) c.requires.called) in
    subst (λ m. CostOfCall m.engine o.new.self) c.self.view_is
    (after-advance i.engine o.new.self c.phase-before.ensures.whole g.0 g.1 c.args.reads o.result o.ensures.keeps o.ensures.outcome).cost

pub returns-clause-marks : goal.returns-clause-marks
returns-clause-marks c =
    let i = c.self.inside in
    let o = c.advance-came in
    let g = the-call i.engine (subst (λ m. is_some m.state.call ≡ true) (sym c.self.view_is) c.requires.called) in
    subst (λ m. KeepsMarks m.engine o.new.self) c.self.view_is
    (after-advance i.engine o.new.self c.phase-before.ensures.whole g.0 g.1 c.args.reads o.result o.ensures.keeps o.ensures.outcome).marks
