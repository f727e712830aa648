use Rattle.ceal_theory.proofs.SlicedRepair.SliceLaws.{renamed-slice-law}
use Rattle.ceal_theory.proofs.slices.renamed_slice_law.Goals as goal

pub returns : goal.returns
returns c = record { law = renamed-slice-law }
