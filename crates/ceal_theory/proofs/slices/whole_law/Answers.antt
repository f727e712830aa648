use Rattle.ceal_theory.proofs.SlicedRepair.SliceLaws.{whole-law}
use Rattle.ceal_theory.proofs.slices.whole_law.Goals as goal

pub returns : goal.returns
returns c = record { law = whole-law }
