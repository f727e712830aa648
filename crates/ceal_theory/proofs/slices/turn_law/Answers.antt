use Rattle.ceal_theory.proofs.SlicedRepair.SliceLaws.{turn-law}
use Rattle.ceal_theory.proofs.slices.turn_law.Goals as goal

pub returns : goal.returns
returns c = record { law = turn-law }
