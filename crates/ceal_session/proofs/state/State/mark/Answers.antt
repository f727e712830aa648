use Rattle.std.proofs.Common.{◌∙◌, OnOk, Result, Ok, Err, ap, subst, sym}
use Rattle.ceal_engine.specs.Engine.{EngineState}
use Rattle.ceal_session.proofs.Engine.EngineRunIsSource.{ready-finished}
use Rattle.ceal_session.proofs.Moves.StateAfterMark.{holds-numbers, is-marked, marked-holds, marked-situation}
use Rattle.ceal_session.proofs.Replies.TextOfReply.{on-err}
use Rattle.ceal_session.specs.Marks.{HoldsNumbers, IsMarked}
use Rattle.ceal_session.specs.Questions.{IsReady}
use Rattle.ceal_session.specs.SessionState.{Held, SessionInvariant, held_of, situation, situation_of}
use Rattle.ceal_session.proofs.state.State.mark.Goals as goal

-- a question finds a finished run
pub mark-requires : goal.mark-requires
mark-requires c =
    let i = c.self.inside in
    ready-finished i.program i.names i.engine i.journal i.pending c.self.invariant c.phase-phase.ensures.whole
    (subst (λ (k : Held). IsReady k.state) (sym c.self.view_is) c.requires)

pub invariant_of-self : goal.invariant_of-self
invariant_of-self c =
    let i = c.self.inside in
    subst (λ (x : EngineState). SessionInvariant i.program i.names x i.journal i.pending) (sym c.mark.ensures.same)
    (marked-holds i.program i.names i.engine i.journal i.pending c.self.invariant c.mark.new.self.marked)

pub returns-clause-numbers : goal.returns-clause-numbers
returns-clause-numbers c =
    let i = c.self.inside in
    subst (λ (x : EngineState). HoldsNumbers (held_of i.program i.names x i.journal i.pending)) (sym c.mark.ensures.same)
    (holds-numbers i.program i.names i.engine i.journal i.pending c.self.invariant c.phase-phase.ensures.whole
    (subst (λ (k : Held). IsReady k.state) (sym c.self.view_is) c.requires))

-- only what is marked is another, and no reply tells it
pub returns-clause-kept : goal.returns-clause-kept
returns-clause-kept c =
    let i = c.self.inside in
    ap (λ (x : EngineState). situation_of i.program i.names x i.journal i.pending) c.mark.ensures.same
    ∙ (marked-situation i.program i.names i.engine i.journal i.pending c.self.invariant c.mark.new.self.marked ∙ ap situation c.self.view_is)

pub returns-clause-same : goal.returns-clause-same
returns-clause-same c =
    let i = c.self.inside in
    ap (λ (x : EngineState). held_of i.program i.names x i.journal i.pending) c.mark.ensures.same
    ∙ ap (λ (k : Held). record k { engine = record k.engine { marked = c.mark.new.self.marked } }) c.self.view_is

pub returns-clause-err : goal.returns-clause-err
returns-clause-err c =
    let i = c.self.inside in
    on-err c.mark.result (λ same. ap (λ (x : EngineState). held_of i.program i.names x i.journal i.pending) same ∙ c.self.view_is) c.mark.ensures.err

on-all : {A E P Q R S : Type 0} (r : Result A E) → (P → Q → R → S) → OnOk r P → OnOk r Q → OnOk r R → OnOk r S
on-all (Ok x) f p q r = f p q r
on-all (Err e) f p q r = tt

pub returns-clause-marked : goal.returns-clause-marked
returns-clause-marked c =
    let i = c.self.inside in
    on-all c.mark.result
    (λ there marked later.
    subst (λ (k : Held). IsMarked k (held_of i.program i.names c.mark.new.self i.journal i.pending)) c.self.view_is
    (subst (λ (x : EngineState). IsMarked (held_of i.program i.names i.engine i.journal i.pending) (held_of i.program i.names x i.journal i.pending)) (sym c.mark.ensures.same)
    (is-marked i.program i.names i.engine i.journal i.pending c.self.invariant c.mark.new.self.marked there marked later)))
    c.mark.ensures.marked c.mark.ensures.held c.mark.ensures.no_input
