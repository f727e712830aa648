use Rattle.std.proofs.Common.{◌≡◌, true, sym, subst}
use Rattle.ceal_base.specs.Fitting.{block_fits}
use Rattle.ceal_engine.specs.Cost.{CostOfCall}
use Rattle.ceal_session.proofs.Moves.StateAfterEdit.{longer-state, longer-keeps, longer-holds}
use Rattle.ceal_session.specs.AfterLine.{KeepsRuns}
use Rattle.ceal_session.specs.SessionState.{state_of, situation, situation_of}
use Rattle.ceal_session.specs.Runs.{memory_of}
use Rattle.ceal_session.specs.Steps.{block_of, with_input}
use Rattle.ceal_session.proofs.state.State.add_input.Goals as goal

-- the engine has the block under the next number, and the table of names its name
pub invariant_of-self-in-Ok : goal.invariant_of-self-in-Ok
invariant_of-self-in-Ok c =
    let i = c.self.inside in
    let o = c.in-Ok.ensures in
    rw c.in_ok-add_new.ensures.ok
    (longer-holds i.program i.names i.engine i.journal i.pending c.self.invariant c.add_input.new.self o.code o.fuel o.call o.forest o.heap o.work c.args.name.now
    (block_of c.args.shape c.args.words.now)
    (subst (λ m. block_fits m.state.program.structs (memory_of m.state) (block_of c.args.shape c.args.words.now) ≡ true) (sym c.self.view_is) c.requires.fits) o.phase o.inputs c.requires.named)

-- the new situation has one input more, with its name
pub returns-in-Ok-clause-ok : goal.returns-in-Ok-clause-ok
returns-in-Ok-clause-ok c =
    let i = c.self.inside in
    let o = c.in-Ok.ensures in
    subst (λ m. state_of i.program c.add_new.new.self c.add_input.new.self i.journal i.pending ≡ with_input m.state c.args.name.now (block_of c.args.shape c.args.words.now)) c.self.view_is
    (rw c.in_ok-add_new.ensures.ok
    (longer-state i.program i.names i.engine i.journal i.pending c.self.invariant c.add_input.new.self o.code o.fuel o.call o.forest o.heap o.work c.args.name.now
    (block_of c.args.shape c.args.words.now)
    (subst (λ m. block_fits m.state.program.structs (memory_of m.state) (block_of c.args.shape c.args.words.now) ≡ true) (sym c.self.view_is) c.requires.fits) o.phase o.inputs))

-- the trace is as it was
pub returns-in-Ok-clause-trace : goal.returns-in-Ok-clause-trace
returns-in-Ok-clause-trace c =
    let i = c.self.inside in
    let o = c.in-Ok.ensures in
    subst (λ m. KeepsRuns (situation m) (situation_of i.program c.add_new.new.self c.add_input.new.self i.journal i.pending)) c.self.view_is
    (rw c.in_ok-add_new.ensures.ok
    (longer-keeps i.program i.names i.engine i.journal i.pending c.self.invariant c.add_input.new.self o.code o.fuel o.call o.forest o.heap o.work c.args.name.now
    (block_of c.args.shape c.args.words.now)
    (subst (λ m. block_fits m.state.program.structs (memory_of m.state) (block_of c.args.shape c.args.words.now) ≡ true) (sym c.self.view_is) c.requires.fits) o.phase o.inputs))

-- it costs what the engine's call does
pub returns-in-Ok-clause-cost : goal.returns-in-Ok-clause-cost
returns-in-Ok-clause-cost c = subst (λ m. CostOfCall m.engine c.add_input.new.self) c.self.view_is (CostOfCall.input c.add_input.ensures.cost)
