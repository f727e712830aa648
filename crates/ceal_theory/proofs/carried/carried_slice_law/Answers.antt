use Rattle.ceal_theory.proofs.SlicedRepair.CarriedLaws.{carried-slice-law}
use Rattle.ceal_theory.proofs.carried.carried_slice_law.Goals as goal

pub returns : goal.returns
returns c = record { law = carried-slice-law }
