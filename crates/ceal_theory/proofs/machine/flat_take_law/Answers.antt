use Rattle.ceal_theory.proofs.MoveMachine.MachineLaws.{flat-take-law}
use Rattle.ceal_theory.proofs.machine.flat_take_law.Goals as goal

pub returns : goal.returns
returns c = record { law = flat-take-law }
