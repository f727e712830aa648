use Rattle.std.proofs.Common.{◌≡◌, Some, sym, subst}
use Rattle.ceal_session.proofs.Memory.EngineTellsRun.{told-blocks}
use Rattle.ceal_session.specs.Questions.{IsReady, blocks_in}
use Rattle.ceal_session.specs.Runs.{present_run}
use Rattle.ceal_session.proofs.state.State.blocks.Goals as goal

-- the core blocks of a finished run are those that its trace allocates
pub returns : goal.returns
returns c =
    subst (λ m. blocks_in (present_run m.state) ≡ Some c.live_blocks.result) c.self.view_is
    (told-blocks c.self.inside.program c.self.inside.names c.self.inside.engine c.self.inside.journal c.self.inside.pending c.self.invariant c.phase-phase.ensures.whole
    (subst (λ m. IsReady m.state) (sym c.self.view_is) c.requires) c.live_blocks.result c.live_blocks.ensures.value)
