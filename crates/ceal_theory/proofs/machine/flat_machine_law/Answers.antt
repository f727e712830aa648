use Rattle.ceal_theory.proofs.MoveMachine.FlatMachine.{flat-law}
use Rattle.ceal_theory.proofs.machine.flat_machine_law.Goals as goal

pub returns : goal.returns
returns c = record { law = flat-law }
