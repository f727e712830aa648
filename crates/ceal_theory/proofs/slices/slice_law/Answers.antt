use Rattle.ceal_theory.proofs.SlicedRepair.SliceLaws.{slice-law}
use Rattle.ceal_theory.proofs.slices.slice_law.Goals as goal

pub returns : goal.returns
returns c = record { law = slice-law }
