use Rattle.ceal_theory.proofs.SlicedRepair.Progress.{progress-law}
use Rattle.ceal_theory.proofs.slices.progress_law.Goals as goal

pub returns : goal.returns
returns c = record { law = progress-law }
