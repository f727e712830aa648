use Rattle.ceal_theory.proofs.SlicedRepair.SliceLaws.{begun-adjusted-law}
use Rattle.ceal_theory.proofs.slices.begun_adjusted_law.Goals as goal

pub returns : goal.returns
returns c = record { law = begun-adjusted-law }
