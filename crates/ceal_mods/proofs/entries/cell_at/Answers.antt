use Rattle.std.proofs.Common.{ap}
use Rattle.ceal_base.specs.declared.word.Place.{Place}
use Rattle.ceal_mods.specs.declared.cell.Cell.{Cell}
use Rattle.ceal_mods.proofs.IndexLemmas.{cell_is}
use Rattle.ceal_mods.proofs.entries.cell_at.Goals as goal

pub returns : goal.returns
returns c = rw (cell_is c.args.cells.now c.args.slot c.index-cells-slot.result c.requires) (ap (λ (e : Place × Cell). e.1) c.index-cells-slot.is)
