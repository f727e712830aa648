use Rattle.ceal_mods.proofs.ModsLemmas.{cells-among}
use Rattle.ceal_mods.proofs.laws.places_have_cells.Goals as goal

pub returns : goal.returns
returns c = record { law = λ mods p. cells-among p mods.cells }
