use Rattle.ceal_theory.proofs.SlicedRepair.Progress.{unrepaired-law}
use Rattle.ceal_theory.proofs.slices.unrepaired_law.Goals as goal

pub returns : goal.returns
returns c = record { law = unrepaired-law }
