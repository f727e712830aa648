use Rattle.std.proofs.Common.{◌∙◌}
use Rattle.ceal_mods.proofs.IndexLemmas.{more_indexes}
use Rattle.ceal_mods.proofs.mods.enter_base.Goals as goal

pub make_slot-requires : goal.make_slot-requires
make_slot-requires c = record { absent = c.requires.indexed.slots c.args.place ∙ c.requires.absent }

pub returns-clause-indexed : goal.returns-clause-indexed
returns-clause-indexed c =
    rw (c.push_reserved.ensures.items, c.in_ok-make_slot.ensures.same)
    (more_indexes c.args.index.now c.make_slot.new.index c.args.cells.now.items c.args.place c.new-cell.result c.requires.indexed c.requires.absent
    c.in_ok-make_slot.ensures.few c.in_ok-make_slot.ensures.here c.make_slot.ensures.others)
