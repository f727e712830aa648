use Rattle.ceal_theory.proofs.SlicedRepair.SliceLaws.{begun-law}
use Rattle.ceal_theory.proofs.slices.begun_law.Goals as goal

pub returns : goal.returns
returns c = record { law = begun-law }
