use Rattle.ceal_theory.proofs.SlicedRepair.SliceLaws.{keep-law}
use Rattle.ceal_theory.proofs.queue.keep_law.Goals as goal

pub returns : goal.returns
returns c = record { law = keep-law }
