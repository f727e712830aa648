use Rattle.std.proofs.Common.{sym, subst}
use Rattle.ceal_session.specs.Consistency.{IsInSome}
use Rattle.ceal_session.proofs.session.Session.mark.Goals as goal

pub invariant_of-self : goal.invariant_of-self
invariant_of-self c = subst IsInSome (sym c.mark.ensures.kept) c.self.invariant
