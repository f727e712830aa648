use Rattle.std.proofs.Common.{subst}
use Rattle.ceal_session.proofs.Moves.SessionTrace.{has-trace}
use Rattle.ceal_session.specs.SessionState.{situation}
use Rattle.ceal_session.specs.Consistency.{HasTrace}
use Rattle.ceal_session.proofs.state.State.traced.Goals as goal

pub returns : goal.returns
returns c =
    let i = c.self.inside in
    subst (λ k. HasTrace (situation k)) c.self.view_is (has-trace i.program i.names i.engine i.journal i.pending c.self.invariant c.phase-phase.ensures.whole)
