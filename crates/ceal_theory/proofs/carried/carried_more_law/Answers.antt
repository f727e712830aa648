use Rattle.ceal_theory.proofs.SlicedRepair.CarriedLaws.{carried-more-law}
use Rattle.ceal_theory.proofs.carried.carried_more_law.Goals as goal

pub returns : goal.returns
returns c = record { law = carried-more-law }
