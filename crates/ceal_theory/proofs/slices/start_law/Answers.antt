use Rattle.ceal_theory.proofs.SlicedRepair.SliceLaws.{start-law}
use Rattle.ceal_theory.proofs.slices.start_law.Goals as goal

pub returns : goal.returns
returns c = record { law = start-law }
