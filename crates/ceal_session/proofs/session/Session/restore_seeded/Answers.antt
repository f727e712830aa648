use Rattle.ceal_session.proofs.session.Session.restore_seeded.Goals as goal

-- a session that continues from a save is in the save's situation
pub invariant_of-result : goal.invariant_of-result
invariant_of-result c = let r = c.in_ok-state.ensures.restored in (_, r.is_in)
