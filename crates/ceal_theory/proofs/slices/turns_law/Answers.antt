use Rattle.ceal_theory.proofs.SlicedRepair.SliceLaws.{turns-law}
use Rattle.ceal_theory.proofs.slices.turns_law.Goals as goal

pub returns : goal.returns
returns c = record { law = turns-law }
