use Rattle.ceal_theory.proofs.SlicedRepair.SliceLaws.{is-done-law}
use Rattle.ceal_theory.proofs.slices.is_done_law.Goals as goal

pub returns : goal.returns
returns c = record { law = is-done-law }
