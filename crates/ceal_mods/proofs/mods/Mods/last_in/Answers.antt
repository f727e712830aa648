use Rattle.ceal_mods.proofs.mods.Mods.last_in.Goals as goal

pub found_in-requires-clause-slot : goal.found_in-requires-clause-slot
found_in-requires-clause-slot g c = rw c.deref.ensures.value (rw (← c.self.view_is) at c.requires.slot)

pub end-requires : goal.end-requires
end-requires g c =
    let here = rw c.deref.ensures.value at c.in-Some.ensures.some in
    record { values = rw here at (rw (← c.self.view_is) at c.requires.values) }
