use Rattle.ceal_theory.proofs.SlicedRepair.SliceLaws.{first-queued-law}
use Rattle.ceal_theory.proofs.queue.first_queued_law.Goals as goal

pub returns : goal.returns
returns c = record { law = first-queued-law }
