use Rattle.ceal_theory.proofs.SlicedRepair.PastLaws.{past-law}
use Rattle.ceal_theory.proofs.carried.past_law.Goals as goal

pub returns : goal.returns
returns c = record { law = past-law }
