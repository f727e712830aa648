use Rattle.std.proofs.Common.{◌≡◌, Some, sym, subst}
use Rattle.ceal_session.proofs.Memory.EngineTellsRun.{told-content}
use Rattle.ceal_session.specs.Questions.{IsReady, IsCellOf, content_text}
use Rattle.ceal_session.specs.Runs.{present_run}
use Rattle.ceal_session.specs.Texts.{value_text}
use Rattle.ceal_session.proofs.state.State.content.Goals as goal

-- what the modifiable holds at the end of the run
pub returns : goal.returns
returns c =
    subst (λ m. content_text m.state c.args.place (present_run m.state) ≡ Some (value_text m.state c.value.result)) c.self.view_is
    (told-content c.self.inside.program c.self.inside.names c.self.inside.engine c.self.inside.journal c.self.inside.pending c.self.invariant c.phase-phase.ensures.whole
    (subst (λ m. IsReady m.state) (sym c.self.view_is) c.requires.ready)
    c.args.place c.value.result (subst (λ m. IsCellOf m.state c.args.place) (sym c.self.view_is) c.requires.cell) c.value.ensures.value)
