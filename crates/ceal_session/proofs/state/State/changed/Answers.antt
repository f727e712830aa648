use Rattle.std.proofs.Common.{sym, subst, ◌∙◌}
use Rattle.ceal_session.proofs.Moves.StateAfterMark.{are-changed, holds-numbers}
use Rattle.ceal_session.specs.Marks.{AreChanged, HoldsNumbers, places_of}
use Rattle.ceal_session.specs.Questions.{IsReady}
use Rattle.ceal_session.specs.SessionState.{Held, held_of}
use Rattle.ceal_session.proofs.state.State.changed.Goals as goal

-- the places that the engine tells, but for those of core blocks
pub returns-clause-told : goal.returns-clause-told
returns-clause-told c =
    let i = c.self.inside in
    let e = c.in_ok-told.ensures in
    subst (λ (k : Held). AreChanged k (places_of c.in_ok-handles.handles.items)) c.self.view_is
    (subst (AreChanged (held_of i.program i.names i.engine i.journal i.pending)) (sym (c.in_ok-handles.ensures ∙ c.as_slice-2.ensures.value))
    (are-changed i.program i.names i.engine i.journal i.pending c.self.invariant c.in_ok-told.told.items e.told e.only e.modifiables
    c.in_ok-places.places.items (rw (← c.as_slice.ensures.value) c.in_ok-places.ensures.same) c.in_ok-places.ensures.sorted (sym c.is_marked.ensures ∙ c.if-not-is_marked.false)))

pub returns-clause-numbers : goal.returns-clause-numbers
returns-clause-numbers c =
    let i = c.self.inside in
    subst HoldsNumbers c.self.view_is
    (holds-numbers i.program i.names i.engine i.journal i.pending c.self.invariant c.phase-phase.ensures.whole (subst (λ (k : Held). IsReady k.state) (sym c.self.view_is) c.requires))

pub returns-then-not-is_marked-clause-numbers : goal.returns-then-not-is_marked-clause-numbers
returns-then-not-is_marked-clause-numbers c =
    let i = c.self.inside in
    subst HoldsNumbers c.self.view_is
    (holds-numbers i.program i.names i.engine i.journal i.pending c.self.invariant c.phase-phase.ensures.whole (subst (λ (k : Held). IsReady k.state) (sym c.self.view_is) c.requires))
