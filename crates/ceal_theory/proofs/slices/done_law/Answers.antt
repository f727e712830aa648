use Rattle.ceal_theory.proofs.SlicedRepair.SliceLaws.{done-law}
use Rattle.ceal_theory.proofs.slices.done_law.Goals as goal

pub returns : goal.returns
returns c = record { law = done-law }
