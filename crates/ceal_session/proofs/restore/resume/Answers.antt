use Rattle.std.proofs.Common.{false, subst, sym}
use Rattle.ceal_session.proofs.Saves.SaveThatHolds.{restored-holds, restored-is}
use Rattle.ceal_session.specs.Journal.{journal_of_bound}
use Rattle.ceal_session.specs.SessionState.{SessionInvariant, situation_of}
use Rattle.ceal_session.specs.SessionSave.{IsResumed}
use Rattle.ceal_snap.specs.SaveText.{Save}
use Rattle.ceal_session.proofs.restore.resume.Goals as goal

-- the engine was restored to a finished run of the saved call
pub finished-requires : goal.finished-requires
finished-requires c =
    let e = c.in_ok-engine in
    let s = c.args.saved.now in
    record {
      holds = rw (c.in-Ok.ensures.program, c.requires.names, c.told-journal.ensures)
          (subst (λ (x : Save). SessionInvariant c.args.program.typed s.names e.engine (journal_of_bound x.bound) false) (sym c.saved.view_is)
          (restored-holds c.args.program s c.requires.compiled c.requires.holds e.engine c.phase-phase.ensures.whole e.ensures.code e.ensures.fuel e.ensures.inputs e.ensures.call e.ensures.phase));
    }

-- the session is the saved one: its names, inputs, run and last work
pub returns : goal.returns
returns c =
    let e = c.in_ok-engine in
    let s = c.args.saved.now in
    rw (c.finished.ensures, c.in-Ok.ensures.program, c.requires.names, c.told-journal.ensures)
    (subst (λ (x : Save). IsResumed c.args.program s (situation_of c.args.program.typed s.names e.engine (journal_of_bound x.bound) false)) (sym c.saved.view_is)
    (restored-is c.args.program s c.requires.compiled c.requires.holds e.engine c.phase-phase.ensures.whole e.ensures.code e.ensures.fuel e.ensures.inputs e.ensures.call e.ensures.phase
    e.ensures.work e.ensures.forest))
