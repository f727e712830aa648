use Rattle.std.proofs.Common.{◌≡◌, Some, sym, subst}
use Rattle.ceal_session.proofs.Memory.EngineTellsRun.{told-steps}
use Rattle.ceal_session.specs.Questions.{IsReady, steps_in}
use Rattle.ceal_session.specs.Runs.{present_run}
use Rattle.ceal_session.proofs.state.State.steps.Goals as goal

-- the steps of the run are those of its trace
pub returns : goal.returns
returns c =
    subst (λ m. steps_in (present_run m.state) ≡ Some c.steps.result) c.self.view_is
    (told-steps c.self.inside.program c.self.inside.names c.self.inside.engine c.self.inside.journal c.self.inside.pending c.self.invariant c.phase-phase.ensures.whole
    (subst (λ m. IsReady m.state) (sym c.self.view_is) c.requires) c.steps.result c.steps.ensures.value)
