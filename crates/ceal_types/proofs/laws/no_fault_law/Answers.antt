use Rattle.ceal_types.proofs.FirstFault.ProgramTells.{no-fault}
use Rattle.ceal_types.proofs.laws.no_fault_law.Goals as goal

pub returns : goal.returns
returns c = record { law = no-fault }
