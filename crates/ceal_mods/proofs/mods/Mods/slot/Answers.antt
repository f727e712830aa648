use Rattle.ceal_mods.proofs.mods.Mods.slot.Goals as goal

pub returns : goal.returns
returns c = rw (c.find.ensures, ← c.self.view_is) (c.self.invariant.indexes.slots c.args.place)
