use Rattle.std.proofs.Common.{refl}
use Rattle.ceal_mods.proofs.IndexLemmas.{cell_is, with_set, cell_with}
use Rattle.ceal_mods.proofs.entries.add_write_at.Goals as goal

pub add-requires-clause-rising : goal.add-requires-clause-rising
add-requires-clause-rising c = rw (cell_is c.args.cells.now c.args.slot c.index-cells-slot.result c.requires.there) at c.requires.rising

pub add-requires-clause-absent : goal.add-requires-clause-absent
add-requires-clause-absent c = rw (cell_is c.args.cells.now c.args.slot c.index-cells-slot.result c.requires.there) at c.requires.absent

pub returns-clause-rising : goal.returns-clause-rising
returns-clause-rising c =
    rw (with_set c.args.cells.now c.args.slot c.index-cells-slot.result _ c.requires.there, cell_with c.args.cells.now c.args.slot _ c.requires.there) c.add.ensures.rising

pub returns-clause-ok : goal.returns-clause-ok
returns-clause-ok c =
    rw (
      with_set c.args.cells.now c.args.slot c.index-cells-slot.result _ c.requires.there,
      cell_is c.args.cells.now c.args.slot c.index-cells-slot.result c.requires.there,
      c.in_ok-add.ensures.ok,
    ) refl
