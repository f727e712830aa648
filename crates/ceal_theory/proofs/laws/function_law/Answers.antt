use Rattle.ceal_theory.proofs.Repair.RepairLaws.{function-law}
use Rattle.ceal_theory.proofs.laws.function_law.Goals as goal

pub returns : goal.returns
returns c = record { law = function-law }
