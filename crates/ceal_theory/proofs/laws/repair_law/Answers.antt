use Rattle.ceal_theory.proofs.Repair.RepairLaws.{repair-law}
use Rattle.ceal_theory.proofs.laws.repair_law.Goals as goal

pub returns : goal.returns
returns c = record { law = repair-law }
