use Rattle.ceal_theory.proofs.SlicedRepair.SliceLaws.{ready-law}
use Rattle.ceal_theory.proofs.slices.ready_law.Goals as goal

pub returns : goal.returns
returns c = record { law = ready-law }
