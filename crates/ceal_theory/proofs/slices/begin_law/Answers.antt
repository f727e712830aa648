use Rattle.ceal_theory.proofs.SlicedRepair.SliceLaws.{begin-law}
use Rattle.ceal_theory.proofs.slices.begin_law.Goals as goal

pub returns : goal.returns
returns c = record { law = begin-law }
