use Rattle.std.proofs.Common.{refl}
use Rattle.ceal_mods.proofs.IndexLemmas.{cell_is, with_set}
use Rattle.ceal_mods.proofs.entries.set_base_at.Goals as goal

pub returns : goal.returns
returns c =
    rw (with_set c.args.cells.now c.args.slot c.index-cells-slot.result _ c.requires, cell_is c.args.cells.now c.args.slot c.index-cells-slot.result c.requires) refl
