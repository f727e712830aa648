use Rattle.ceal_cost.proofs.Mapping.NewCell.{new-cell-law}
use Rattle.ceal_cost.proofs.laws.new_cell_law.Goals as goal

pub returns : goal.returns
returns c = record { law = new-cell-law }
