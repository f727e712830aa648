use Rattle.ceal_mods.proofs.WritesLemmas.{last-told, some-told, told-is}
use Rattle.ceal_mods.proofs.writes.Writes.last.Goals as goal

pub written_at-requires : goal.written_at-requires
written_at-requires g c = record {
  there = some-told _ _ (last-told (g.W.Written.tells c.args.written.now) c.args.base _ _ c.self.invariant (rw (← c.self.view_is) at c.requires.values) _ c.in-Some.ensures.some);
}

pub returns-in-Some : goal.returns-in-Some
returns-in-Some g c = rw (← c.self.view_is) (told-is _ _ _ c.written_at.ensures
    (last-told (g.W.Written.tells c.args.written.now) c.args.base _ _ c.self.invariant (rw (← c.self.view_is) at c.requires.values) _ c.in-Some.ensures.some))
