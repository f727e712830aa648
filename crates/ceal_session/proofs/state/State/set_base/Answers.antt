use Rattle.std.proofs.Common.{◌≡◌, true, ap, ◌∙◌, sym, subst}
use Rattle.ceal_engine.specs.Cost.{CostOfCall}
use Rattle.ceal_session.proofs.Moves.StateAfterEdit.{edited-state, edited-keeps, edited-holds}
use Rattle.ceal_session.specs.Questions.{IsCellOf}
use Rattle.ceal_session.specs.AfterLine.{KeepsRuns}
use Rattle.ceal_session.specs.Journal.{with_edit}
use Rattle.ceal_session.specs.SessionState.{state_of, situation, situation_of, SessionInvariant}
use Rattle.ceal_session.specs.Steps.{with_base}
use Rattle.ceal_session.specs.UndoneEdits.{base_at}
use Rattle.ceal_session.proofs.state.State.set_base.Goals as goal

-- the engine has another base at the place, and the rest of the state is as it was
pub invariant_of-self-in-Ok : goal.invariant_of-self-in-Ok
invariant_of-self-in-Ok c =
    let i = c.self.inside in
    let o = c.in-Ok.ensures in
    let same = c.in_ok-push.ensures.ok
    ∙ ap (λ w. with_edit i.journal (record { place = c.args.place; base = w })) (c.base_of-base.ensures ∙ ap (λ xs. base_at xs c.args.place) c.input_blocks.ensures.value) in
    subst (λ k. SessionInvariant i.program i.names c.edit.new.self k true) (sym same)
    (edited-holds i.program i.names i.engine i.journal i.pending c.self.invariant c.edit.new.self o.code o.fuel o.call o.forest o.heap o.work c.args.place c.args.word
    (subst (λ m. IsCellOf m.state c.args.place) (sym c.self.view_is) c.requires.cell) o.phase o.inputs)

-- the new situation has the edited input
pub returns-in-Ok-clause-ok : goal.returns-in-Ok-clause-ok
returns-in-Ok-clause-ok c =
    let i = c.self.inside in
    let o = c.in-Ok.ensures in
    let same = c.in_ok-push.ensures.ok
    ∙ ap (λ w. with_edit i.journal (record { place = c.args.place; base = w })) (c.base_of-base.ensures ∙ ap (λ xs. base_at xs c.args.place) c.input_blocks.ensures.value) in
    subst (λ m. state_of i.program i.names c.edit.new.self c.push.new.self true ≡ with_base m.state c.args.place c.args.word) c.self.view_is
    (subst (λ k. state_of i.program i.names c.edit.new.self k true ≡ with_base (state_of i.program i.names i.engine i.journal i.pending) c.args.place c.args.word) (sym same)
    (edited-state i.program i.names i.engine i.journal i.pending c.self.invariant c.edit.new.self o.code o.fuel o.call o.forest o.heap o.work c.args.place c.args.word
    (subst (λ m. IsCellOf m.state c.args.place) (sym c.self.view_is) c.requires.cell) o.phase o.inputs))

-- the trace is as it was
pub returns-in-Ok-clause-trace : goal.returns-in-Ok-clause-trace
returns-in-Ok-clause-trace c =
    let i = c.self.inside in
    let o = c.in-Ok.ensures in
    let same = c.in_ok-push.ensures.ok
    ∙ ap (λ w. with_edit i.journal (record { place = c.args.place; base = w })) (c.base_of-base.ensures ∙ ap (λ xs. base_at xs c.args.place) c.input_blocks.ensures.value) in
    subst (λ m. KeepsRuns (situation m) (situation_of i.program i.names c.edit.new.self c.push.new.self true)) c.self.view_is
    (subst (λ k. KeepsRuns (situation_of i.program i.names i.engine i.journal i.pending) (situation_of i.program i.names c.edit.new.self k true)) (sym same)
    (edited-keeps i.program i.names i.engine i.journal i.pending c.self.invariant c.edit.new.self o.code o.fuel o.call o.forest o.heap o.work c.args.place c.args.word
    (subst (λ m. IsCellOf m.state c.args.place) (sym c.self.view_is) c.requires.cell) o.phase o.inputs))

-- it costs what the engine's call does
pub returns-in-Ok-clause-cost : goal.returns-in-Ok-clause-cost
returns-in-Ok-clause-cost c = subst (λ m. CostOfCall m.engine c.edit.new.self) c.self.view_is (CostOfCall.edit c.edit.ensures.cost)
