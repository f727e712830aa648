use Rattle.std.proofs.Common.{◌≡◌, length}
use Rattle.ceal_mods.proofs.WritesLemmas.{stamps-written, written-without, as_many-without}
use Rattle.ceal_mods.proofs.writes.Writes.remove.Goals as goal

pub remove-at-requires-clause-rising : goal.remove-at-requires-clause-rising
remove-at-requires-clause-rising c = rw (stamps-written _ _ c.self.invariant) at (rw (← c.self.view_is) at c.requires.rising)

pub remove-at-requires-clause-there : goal.remove-at-requires-clause-there
remove-at-requires-clause-there c = rw (stamps-written _ _ c.self.invariant) at (rw (← c.self.view_is) at c.requires.there)

pub invariant_of-self : goal.invariant_of-self
invariant_of-self c =
    let there = rw (stamps-written _ _ c.self.invariant) at (rw (← c.self.view_is) at c.requires.there) in
    rw (c.remove-at.ensures.stamps, c.remove.ensures, c.remove-at.ensures.at) (as_many-without _ _ _ c.self.invariant there)

pub returns-clause-writes : goal.returns-clause-writes
returns-clause-writes c =
    let there = rw (stamps-written _ _ c.self.invariant) at (rw (← c.self.view_is) at c.requires.there) in
    rw (c.remove-at.ensures.stamps, c.remove.ensures, c.remove-at.ensures.at, ← c.self.view_is) (written-without _ _ _ c.self.invariant there)

pub returns-clause-rising : goal.returns-clause-rising
returns-clause-rising c =
    let there = rw (stamps-written _ _ c.self.invariant) at (rw (← c.self.view_is) at c.requires.there) in
    let same : length c.remove-at.new.self ≡ length c.remove.new.self.list
    = rw (c.remove-at.ensures.stamps, c.remove.ensures, c.remove-at.ensures.at) (as_many-without _ _ _ c.self.invariant there) in
    rw (stamps-written _ _ same) c.remove-at.ensures.rising
