use Rattle.ceal_theory.proofs.Repair.RepairLaws.{unique-law}
use Rattle.ceal_theory.proofs.laws.unique_law.Goals as goal

pub returns : goal.returns
returns c = record { law = unique-law }
