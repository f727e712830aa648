use Rattle.ceal_mods.proofs.mods.Mods.affected_in.Goals as goal

pub affected-requires-clause-rises : goal.affected-requires-clause-rises
affected-requires-clause-rises c =
    let here = rw c.deref.ensures.value at c.in-Some.ensures.some in
    rw here at (rw (← c.self.view_is) at c.requires.follows c.args.place)

pub found_in-requires-clause-slot : goal.found_in-requires-clause-slot
found_in-requires-clause-slot c = rw c.deref.ensures.value (rw (← c.self.view_is) at c.requires.slot)
