use Rattle.ceal_mods.proofs.mods.Mods.value_in.Goals as goal
use Rattle.ceal_mods.proofs.mods.Mods.value_in.Goals.{in-None, in-Some}

pub before-requires-clause-rising : goal.before-requires-clause-rising
before-requires-clause-rising g c =
    let here = rw c.deref.ensures.value at c.in-Some.ensures.some in
    let rises = rw here at (rw (← c.self.view_is) at c.requires.follows c.args.place) in
    rises.writes

pub before-requires-clause-values : goal.before-requires-clause-values
before-requires-clause-values g c =
    let here = rw c.deref.ensures.value at c.in-Some.ensures.some in
    rw here at (rw (← c.self.view_is) at c.requires.values)

pub returns-clause-follows : goal.returns-clause-follows
returns-clause-follows g c = elim c.match-found_in.branch [
  | in-None w ↦ rw w.self-inside-is (rw (← c.self.view_is) at c.requires.follows)
  | in-Some w ↦ rw w.self-inside-is (rw (← c.self.view_is) at c.requires.follows)
]

pub found_in-requires-clause-slot : goal.found_in-requires-clause-slot
found_in-requires-clause-slot g c = rw c.deref.ensures.value (rw (← c.self.view_is) at c.requires.slot)
