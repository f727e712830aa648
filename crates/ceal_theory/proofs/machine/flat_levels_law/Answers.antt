use Rattle.ceal_theory.proofs.MoveMachine.MachineLaws.{flat-levels-law}
use Rattle.ceal_theory.proofs.machine.flat_levels_law.Goals as goal

pub returns : goal.returns
returns c = record { law = flat-levels-law }
