use Rattle.ceal_theory.proofs.SlicedRepair.SliceLaws.{front-law}
use Rattle.ceal_theory.proofs.queue.front_law.Goals as goal

pub returns : goal.returns
returns c = record { law = front-law }
