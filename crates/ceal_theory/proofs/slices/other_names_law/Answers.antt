use Rattle.ceal_theory.proofs.SlicedRepair.SliceLaws.{other-names-law}
use Rattle.ceal_theory.proofs.slices.other_names_law.Goals as goal

pub returns : goal.returns
returns c = record { law = other-names-law }
