use Rattle.std.proofs.Common.{◌≡◌, ◌∙◌, sym, subst}
use Rattle.ceal_session.proofs.Memory.EngineTellsRun.{told-value}
use Rattle.ceal_session.specs.Questions.{IsReady, IsCellOf}
use Rattle.ceal_session.specs.Runs.{present_run}
use Rattle.ceal_session.specs.Values.{number_after}
use Rattle.ceal_session.proofs.state.State.number.Goals as goal

-- what the modifiable holds at the end of the run, as a number
pub returns : goal.returns
returns c =
    subst (λ m. c.word_number.result ≡ number_after c.args.place (present_run m.state)) c.self.view_is
    (c.word_number.ensures ∙ told-value c.self.inside.program c.self.inside.names c.self.inside.engine c.self.inside.journal c.self.inside.pending c.self.invariant c.phase-phase.ensures.whole
    (subst (λ m. IsReady m.state) (sym c.self.view_is) c.requires.ready) c.args.place c.value.result
    (subst (λ m. IsCellOf m.state c.args.place) (sym c.self.view_is) c.requires.cell) c.value.ensures.value)
