use Rattle.ceal_theory.proofs.SlicedRepair.SliceLaws.{follow-law}
use Rattle.ceal_theory.proofs.slices.follow_law.Goals as goal

pub returns : goal.returns
returns c = record { law = follow-law }
