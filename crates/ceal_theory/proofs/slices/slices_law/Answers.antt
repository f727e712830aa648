use Rattle.ceal_theory.proofs.SlicedRepair.SliceLaws.{slices-law}
use Rattle.ceal_theory.proofs.slices.slices_law.Goals as goal

pub returns : goal.returns
returns c = record { law = slices-law }
