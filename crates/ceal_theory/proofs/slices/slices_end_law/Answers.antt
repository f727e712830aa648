use Rattle.ceal_theory.proofs.SlicedRepair.Progress.{slices-end-law}
use Rattle.ceal_theory.proofs.slices.slices_end_law.Goals as goal

pub returns : goal.returns
returns c = record { law = slices-end-law }
