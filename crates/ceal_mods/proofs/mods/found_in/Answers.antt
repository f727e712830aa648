use Rattle.std.proofs.Common.{sym, ◌∙◌, arith}
use Rattle.ceal_mods.proofs.IndexLemmas.{held_at, slot_none, lookup_stands}
use Rattle.ceal_mods.proofs.mods.found_in.Goals as goal

pub returns-then-slot-eq-NO_SLOT-clause-none : goal.returns-then-slot-eq-NO_SLOT-clause-none
returns-then-slot-eq-NO_SLOT-clause-none c =
    slot_none 0 c.args.place c.args.cells.now (let few = c.requires.few in omega (arith, few)) (sym c.requires.slot ∙ c.if-slot-eq-NO_SLOT.true)

pub cell_at-requires : goal.cell_at-requires
cell_at-requires c = (held_at c.args.cells.now c.args.place c.args.slot c.requires.slot c.if-slot-eq-NO_SLOT.false).within

pub returns-clause-some : goal.returns-clause-some
returns-clause-some c =
    rw c.cell_at.ensures (lookup_stands c.args.place c.args.cells.now c.args.slot (held_at c.args.cells.now c.args.place c.args.slot c.requires.slot c.if-slot-eq-NO_SLOT.false).stands)
