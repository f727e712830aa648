use Rattle.ceal_theory.proofs.SlicedRepair.SliceLaws.{stays-law}
use Rattle.ceal_theory.proofs.slices.stays_law.Goals as goal

pub returns : goal.returns
returns c = record { law = stays-law }
