use Rattle.ceal_theory.proofs.Repair.RepairLaws.{end-law}
use Rattle.ceal_theory.proofs.laws.end_law.Goals as goal

pub returns : goal.returns
returns c = record { law = end-law }
