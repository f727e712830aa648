use Rattle.ceal_theory.proofs.MoveMachine.MachineLaws.{machine-law}
use Rattle.ceal_theory.proofs.machine.machine_law.Goals as goal

pub returns : goal.returns
returns c = record { law = machine-law }
