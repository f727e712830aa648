use Rattle.ceal_theory.proofs.SlicedRepair.SliceLaws.{pop-law}
use Rattle.ceal_theory.proofs.queue.pop_law.Goals as goal

pub returns : goal.returns
returns c = record { law = pop-law }
