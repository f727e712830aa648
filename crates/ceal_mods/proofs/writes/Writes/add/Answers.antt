use Rattle.std.proofs.Common.{◌≡◌, length}
use Rattle.ceal_mods.proofs.WritesLemmas.{stamps-written, written-insert, as_many-insert}
use Rattle.ceal_mods.proofs.writes.Writes.add.Goals as goal

pub insert-requires-clause-rising : goal.insert-requires-clause-rising
insert-requires-clause-rising c = rw (stamps-written _ _ c.self.invariant) at (rw (← c.self.view_is) at c.requires.rising)

pub insert-requires-clause-absent : goal.insert-requires-clause-absent
insert-requires-clause-absent c = rw (stamps-written _ _ c.self.invariant) at (rw (← c.self.view_is) at c.requires.absent)

pub invariant_of-self-2 : goal.invariant_of-self-2
invariant_of-self-2 c = rw (c.in_ok-at.ensures.ok, c.insert-2.ensures, c.in_ok-at.ensures.at) (as_many-insert _ _ _ _ _ c.self.invariant)

pub returns-clause-ok : goal.returns-clause-ok
returns-clause-ok c =
    rw (c.in_ok-at.ensures.ok, c.insert-2.ensures, c.in_ok-at.ensures.at, ← c.self.view_is, stamps-written _ _ c.self.invariant)
    (written-insert _ _ _ _ _ c.self.invariant)

pub returns-clause-rising : goal.returns-clause-rising
returns-clause-rising c =
    let same : length c.insert.new.self ≡ length c.insert-2.new.self.list
    = rw (c.in_ok-at.ensures.ok, c.insert-2.ensures, c.in_ok-at.ensures.at) (as_many-insert _ _ _ _ _ c.self.invariant) in
    rw (stamps-written _ _ same) c.in_ok-at.ensures.rising
