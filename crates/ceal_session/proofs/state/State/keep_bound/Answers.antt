use Rattle.std.proofs.Common.{◌≡◌, ◌∙◌, ap, sym, subst}
use Rattle.ceal_session.proofs.Replies.KeptBound.{keeps, keeps-situation}
use Rattle.ceal_session.specs.SessionState.{Held, SessionInvariant, held_of, situation}
use Rattle.ceal_session.proofs.state.State.keep_bound.Goals as goal

pub invariant_of-self : goal.invariant_of-self
invariant_of-self c =
    let i = c.self.inside in
    subst (λ j. SessionInvariant i.program i.names i.engine j i.pending) (sym c.keep.ensures) (keeps i.program i.names i.engine i.journal i.pending c.args.bound c.self.invariant)

-- only the number that is kept changes, and no reply depends on whether it is kept
pub returns : goal.returns
returns c =
    let i = c.self.inside in
    let same : c.args.bound ≡ (situation (held_of i.program i.names i.engine i.journal i.pending)).bound = subst (λ m. c.args.bound ≡ (situation m).bound) (sym c.self.view_is) c.requires.bound in
    record {
      kept = ap (λ j. situation (held_of i.program i.names i.engine j i.pending)) c.keep.ensures
          ∙ (keeps-situation i.program i.names i.engine i.journal i.pending c.args.bound same ∙ ap situation c.self.view_is);
      engine = ap (λ (m : Held). m.engine) c.self.view_is;
    }
