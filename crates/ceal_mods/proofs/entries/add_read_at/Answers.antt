use Rattle.std.proofs.Common.{refl}
use Rattle.ceal_mods.proofs.IndexLemmas.{cell_is, with_set, cell_with}
use Rattle.ceal_mods.proofs.entries.add_read_at.Goals as goal

pub insert-requires-clause-rising : goal.insert-requires-clause-rising
insert-requires-clause-rising c = rw (cell_is c.args.cells.now c.args.slot c.index-cells-slot.result c.requires.there) at c.requires.rising

pub insert-requires-clause-absent : goal.insert-requires-clause-absent
insert-requires-clause-absent c = rw (cell_is c.args.cells.now c.args.slot c.index-cells-slot.result c.requires.there) at c.requires.absent

pub returns-clause-rising : goal.returns-clause-rising
returns-clause-rising c =
    rw (with_set c.args.cells.now c.args.slot c.index-cells-slot.result _ c.requires.there, cell_with c.args.cells.now c.args.slot _ c.requires.there) c.insert.ensures.rising

pub returns-clause-ok : goal.returns-clause-ok
returns-clause-ok c =
    rw (
      with_set c.args.cells.now c.args.slot c.index-cells-slot.result _ c.requires.there,
      cell_is c.args.cells.now c.args.slot c.index-cells-slot.result c.requires.there,
      c.in_ok-insert.ensures.ok,
    ) refl
