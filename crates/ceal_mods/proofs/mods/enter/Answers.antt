use Rattle.std.proofs.Common.{◌∙◌}
use Rattle.ceal_mods.proofs.IndexLemmas.{more_indexes}
use Rattle.ceal_mods.proofs.mods.enter.Goals as goal

pub make_slot-requires : goal.make_slot-requires
make_slot-requires c = record { absent = c.requires.indexed.slots c.args.place ∙ c.requires.absent }

pub returns-in-Ok-clause-indexed : goal.returns-in-Ok-clause-indexed
returns-in-Ok-clause-indexed c =
    rw (c.push_reserved.ensures.items, c.in-Ok.ensures.same)
    (more_indexes c.args.index.now c.make_slot.new.index c.args.cells.now.items c.args.place c.args.cell c.requires.indexed c.requires.absent
    c.in-Ok.ensures.few c.in-Ok.ensures.here c.make_slot.ensures.others)
