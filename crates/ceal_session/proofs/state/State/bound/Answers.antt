use Rattle.std.proofs.Common.{◌≡◌, IfOk, true, is_some, sym, subst}
use Rattle.ceal_session.proofs.Replies.TextOfReply.{if-ok}
use Rattle.ceal_session.proofs.Memory.EngineTellsRun.{told-run, told-cost, now-measured}
use Rattle.ceal_session.specs.Questions.{IsReady}
use Rattle.ceal_session.specs.SessionState.{situation}
use Rattle.ceal_session.specs.Runs.{present_run}
use Rattle.ceal_session.proofs.state.State.bound.Goals as goal

pub bound_of-requires : goal.bound_of-requires
bound_of-requires c =
    let i = c.self.inside in
    record {
      measured = rw c.bounding.ensures
          (now-measured i.program i.names i.engine i.journal i.pending c.self.invariant c.phase-phase.ensures.whole (subst (λ m. IsReady m.state) (sym c.self.view_is) c.requires));
    }

-- the number is the bound that the situation tells
pub returns-clause-bound : goal.returns-clause-bound
returns-clause-bound c =
    let i = c.self.inside in
    subst (λ m. IfOk c.bound_of.result (λ n. n ≡ (situation m).bound)) c.self.view_is
    (if-ok c.bound_of.result
    (λ n h. told-cost i.program i.names i.engine i.journal i.pending c.self.invariant c.phase-phase.ensures.whole (subst (λ m. IsReady m.state) (sym c.self.view_is) c.requires) n
    (rw c.bounding.ensures at h))
    c.bound_of.ensures)

pub returns-clause-run : goal.returns-clause-run
returns-clause-run c =
    let i = c.self.inside in
    subst (λ m. is_some (present_run m.state) ≡ true) c.self.view_is
    (told-run i.program i.names i.engine i.journal i.pending c.self.invariant c.phase-phase.ensures.whole (subst (λ m. IsReady m.state) (sym c.self.view_is) c.requires))
