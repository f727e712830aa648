use Rattle.std.proofs.Common.{refl}
use Rattle.ceal_mods.proofs.WritesLemmas.{stamps-written, last-before, before-told, some-told, told-is}
use Rattle.ceal_mods.proofs.writes.Writes.before.Goals as goal

pub last_before-requires-clause-rising : goal.last_before-requires-clause-rising
last_before-requires-clause-rising g c = rw (stamps-written _ _ c.self.invariant) at (rw (← c.self.view_is) at c.requires.rising)

pub written_at-requires : goal.written_at-requires
written_at-requires g c =
    let rising = rw (stamps-written _ _ c.self.invariant) at (rw (← c.self.view_is) at c.requires.rising) in
    record {
      there = some-told _ _ (before-told (g.W.Written.tells c.args.written.now) c.args.base _ _ c.self.invariant (rw (← c.self.view_is) at c.requires.values) _
          c.args.order.now.stamps c.args.stamp.0 rising c.in-Some.ensures.some);
    }

pub returns-in-None : goal.returns-in-None
returns-in-None g c =
    let rising = rw (stamps-written _ _ c.self.invariant) at (rw (← c.self.view_is) at c.requires.rising) in
    rw (← c.self.view_is, last-before _ _ _ _ _ c.self.invariant rising, c.in-None.ensures.none) refl

pub returns-in-Some : goal.returns-in-Some
returns-in-Some g c =
    let rising = rw (stamps-written _ _ c.self.invariant) at (rw (← c.self.view_is) at c.requires.rising) in
    rw (← c.self.view_is) (told-is _ _ _ c.written_at.ensures
    (before-told (g.W.Written.tells c.args.written.now) c.args.base _ _ c.self.invariant (rw (← c.self.view_is) at c.requires.values) _
    c.args.order.now.stamps c.args.stamp.0 rising c.in-Some.ensures.some))
