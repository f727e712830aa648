use Rattle.ceal_theory.proofs.SlicedRepair.SliceLaws.{more-law}
use Rattle.ceal_theory.proofs.slices.more_law.Goals as goal

pub returns : goal.returns
returns c = record { law = more-law }
