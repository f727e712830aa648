use Rattle.ceal_theory.proofs.SlicedRepair.SliceLaws.{bases-law}
use Rattle.ceal_theory.proofs.slices.bases_law.Goals as goal

pub returns : goal.returns
returns c = record { law = bases-law }
