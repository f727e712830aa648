use Rattle.ceal_types.proofs.FirstFault.ProgramTells.{first-fault}
use Rattle.ceal_types.proofs.laws.first_fault_law.Goals as goal

pub returns : goal.returns
returns c = record { law = first-fault }
