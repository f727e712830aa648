use Rattle.ceal_theory.proofs.SlicedRepair.SliceLaws.{turns-over-law}
use Rattle.ceal_theory.proofs.slices.turns_over_law.Goals as goal

pub returns : goal.returns
returns c = record { law = turns-over-law }
