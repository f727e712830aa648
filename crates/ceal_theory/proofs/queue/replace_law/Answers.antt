use Rattle.ceal_theory.proofs.SlicedRepair.SliceLaws.{replace-law}
use Rattle.ceal_theory.proofs.queue.replace_law.Goals as goal

pub returns : goal.returns
returns c = record { law = replace-law }
