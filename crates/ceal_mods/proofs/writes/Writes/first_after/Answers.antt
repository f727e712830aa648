use Rattle.ceal_mods.proofs.WritesLemmas.{stamps-written}
use Rattle.ceal_mods.proofs.writes.Writes.first_after.Goals as goal

pub first_after-requires-clause-rising : goal.first_after-requires-clause-rising
first_after-requires-clause-rising c = rw (stamps-written _ _ c.self.invariant) at (rw (← c.self.view_is) at c.requires.rising)

pub returns-clause-some : goal.returns-clause-some
returns-clause-some c = rw (← c.self.view_is, stamps-written _ _ c.self.invariant) c.first_after.ensures.some

pub returns-clause-none : goal.returns-clause-none
returns-clause-none c = rw (← c.self.view_is, stamps-written _ _ c.self.invariant) c.first_after.ensures.none
