use Rattle.ceal_theory.proofs.SlicedRepair.CarriedLaws.{carried-on-law}
use Rattle.ceal_theory.proofs.carried.carried_on_law.Goals as goal

pub returns : goal.returns
returns c = record { law = carried-on-law }
