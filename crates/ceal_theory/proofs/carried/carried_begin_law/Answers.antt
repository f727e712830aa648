use Rattle.ceal_theory.proofs.SlicedRepair.CarriedLaws.{carried-begin-law}
use Rattle.ceal_theory.proofs.carried.carried_begin_law.Goals as goal

pub returns : goal.returns
returns c = record { law = carried-begin-law }
