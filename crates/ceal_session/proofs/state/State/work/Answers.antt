use Rattle.std.proofs.Common.{◌≡◌, true, is_some, sym, subst}
use Rattle.ceal_session.proofs.Memory.EngineTellsRun.{told-run, told-work}
use Rattle.ceal_session.specs.Questions.{IsReady}
use Rattle.ceal_session.specs.SessionState.{situation}
use Rattle.ceal_session.specs.Runs.{present_run}
use Rattle.ceal_session.specs.State.{numbers_in}
use Rattle.ceal_session.proofs.state.State.work.Goals as goal

-- the work is that of the last update that was completed
pub returns-clause-work : goal.returns-clause-work
returns-clause-work c =
    subst (λ m. c.work.result ≡ (numbers_in (situation m)).work) c.self.view_is
    (told-work c.self.inside.program c.self.inside.names c.self.inside.engine c.self.inside.journal c.self.inside.pending c.self.invariant c.phase-phase.ensures.whole
    (subst (λ m. IsReady m.state) (sym c.self.view_is) c.requires) c.work.result c.work.ensures.value)

-- the session is ready, so there is a run
pub returns-clause-run : goal.returns-clause-run
returns-clause-run c =
    subst (λ m. is_some (present_run m.state) ≡ true) c.self.view_is
    (told-run c.self.inside.program c.self.inside.names c.self.inside.engine c.self.inside.journal c.self.inside.pending c.self.invariant c.phase-phase.ensures.whole
    (subst (λ m. IsReady m.state) (sym c.self.view_is) c.requires))
