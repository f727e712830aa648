use Rattle.ceal_theory.proofs.Repair.RepairLaws.{unchanged-law}
use Rattle.ceal_theory.proofs.laws.unchanged_law.Goals as goal

pub returns : goal.returns
returns c = record { law = unchanged-law }
