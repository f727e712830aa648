use Rattle.std.proofs.Common.{refl}
use Rattle.ceal_mods.proofs.IndexLemmas.{cell_is, with_set, cell_with}
use Rattle.ceal_mods.proofs.entries.remove_read_at.Goals as goal

pub remove-requires-clause-rising : goal.remove-requires-clause-rising
remove-requires-clause-rising c = rw (cell_is c.args.cells.now c.args.slot c.index-cells-slot.result c.requires.there) at c.requires.rising

pub remove-requires-clause-there : goal.remove-requires-clause-there
remove-requires-clause-there c = rw (cell_is c.args.cells.now c.args.slot c.index-cells-slot.result c.requires.there) at c.requires.has

pub returns-clause-rising : goal.returns-clause-rising
returns-clause-rising c =
    rw (with_set c.args.cells.now c.args.slot c.index-cells-slot.result _ c.requires.there, cell_with c.args.cells.now c.args.slot _ c.requires.there) c.remove.ensures.rising

pub returns-clause-cell : goal.returns-clause-cell
returns-clause-cell c =
    rw (
      with_set c.args.cells.now c.args.slot c.index-cells-slot.result _ c.requires.there,
      cell_is c.args.cells.now c.args.slot c.index-cells-slot.result c.requires.there,
      c.remove.ensures.stamps,
    ) refl
