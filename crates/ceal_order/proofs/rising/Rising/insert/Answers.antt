use Rattle.std.proofs.Common.{arith, refl}
use Rattle.ceal_order.proofs.Searching.{length-numbers}
use Rattle.ceal_order.proofs.Editing.{numbers-insert, rising_insert}
use Rattle.ceal_order.proofs.rising.Rising.insert.Goals as goal

pub returns-clause-ok : goal.returns-clause-ok
returns-clause-ok c = rw (c.in_ok-insert.ensures.ok, numbers-insert, c.searched-at.ensures.count, ← c.self.view_is) refl

pub returns-clause-rising : goal.returns-clause-rising
returns-clause-rising c =
    let rising = rw (← c.self.view_is) at c.requires.rising in
    let absent = rw (← c.self.view_is) at c.requires.absent in
    rw (c.in_ok-insert.ensures.ok, numbers-insert, c.searched-at.ensures.count) (rising_insert _ _ _ c.requires.here rising absent)

pub returns-clause-within : goal.returns-clause-within
returns-clause-within c = rw (← c.self.view_is) (omega (arith, c.searched-at.ensures.within, length-numbers c.self.inside.stamps))
