use Rattle.ceal_theory.proofs.Repair.RepairLaws.{renamed-law}
use Rattle.ceal_theory.proofs.laws.renamed_law.Goals as goal

pub returns : goal.returns
returns c = record { law = renamed-law }
