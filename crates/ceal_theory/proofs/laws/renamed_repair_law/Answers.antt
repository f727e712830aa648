use Rattle.ceal_theory.proofs.Repair.RepairLaws.{renamed-repair-law}
use Rattle.ceal_theory.proofs.laws.renamed_repair_law.Goals as goal

pub returns : goal.returns
returns c = record { law = renamed-repair-law }
