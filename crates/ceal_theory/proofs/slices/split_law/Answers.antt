use Rattle.ceal_theory.proofs.SlicedRepair.SliceLaws.{split-law}
use Rattle.ceal_theory.proofs.slices.split_law.Goals as goal

pub returns : goal.returns
returns c = record { law = split-law }
