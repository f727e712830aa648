use Rattle.ceal_theory.proofs.SlicedRepair.CarriedLaws.{carried-same-law}
use Rattle.ceal_theory.proofs.carried.carried_same_law.Goals as goal

pub returns : goal.returns
returns c = record { law = carried-same-law }
