use Rattle.ceal_theory.proofs.SlicedRepair.SliceLaws.{history-law}
use Rattle.ceal_theory.proofs.slices.history_law.Goals as goal

pub returns : goal.returns
returns c = record { law = history-law }
