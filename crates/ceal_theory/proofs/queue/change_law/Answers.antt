use Rattle.ceal_theory.proofs.SlicedRepair.SliceLaws.{change-law}
use Rattle.ceal_theory.proofs.queue.change_law.Goals as goal

pub returns : goal.returns
returns c = record { law = change-law }
