use Rattle.std.proofs.Common.{sym, subst, arith}
use Rattle.ceal_session.proofs.Engine.RecordOfTrace.{record-is}
use Rattle.ceal_session.specs.Questions.{IsReady}
use Rattle.ceal_session.specs.SessionState.{situation}
use Rattle.ceal_session.specs.RunRecord.{IsRecorded}
use Rattle.ceal_session.proofs.state.State.recorded.Goals as goal

-- the record has the code, the inputs, the call and the items of the run
pub returns : goal.returns
returns c =
    let i = c.self.inside in
    let is = c.if-not-is_ready.false in
    let ready : IsReady c.args.self.now.state = c.is_ready.ensures.ready.0 (grind (arith, is)) in
    subst (λ m. IsRecorded (situation m) c.in_ok-record-in-Some.record) c.self.view_is
    (record-is i.program i.names i.engine i.journal i.pending c.self.invariant c.phase-phase.ensures.whole (subst (λ m. IsReady m.state) (sym c.self.view_is) ready)
    c.in_ok-forest.forest c.in_ok-forest.ensures.value (record { function = c.in-Some.function; args = c.in-Some.args.now }) c.in-Some.ensures.value c.in_ok-record-in-Some.record
    (rw (c.code-code.ensures.value, c.input_blocks-inputs.ensures.value, c.items.ensures.value) at c.in_ok-record-in-Some.ensures))
