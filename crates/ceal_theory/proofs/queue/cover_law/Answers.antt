use Rattle.ceal_theory.proofs.SlicedRepair.SliceLaws.{cover-law}
use Rattle.ceal_theory.proofs.queue.cover_law.Goals as goal

pub returns : goal.returns
returns c = record { law = cover-law }
