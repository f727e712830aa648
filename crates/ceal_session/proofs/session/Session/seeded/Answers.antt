use Rattle.std.proofs.Common.{sym, subst}
use Rattle.ceal_session.specs.AfterLine.{situation_at_start}
use Rattle.ceal_session.specs.Consistency.{IsInSome}
use Rattle.ceal_session.proofs.session.Session.seeded.Goals as goal

-- a session that begins is in the first situation
pub invariant_of-result : goal.invariant_of-result
invariant_of-result c =
    subst IsInSome (sym c.in_ok-state.ensures)
    (situation_at_start c.args.program c.args.fuel, c.some_reply.ensures.begun c.args.program c.args.fuel c.requires.compiled)
