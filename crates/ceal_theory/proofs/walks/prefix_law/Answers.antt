use Rattle.ceal_theory.proofs.MoveMachine.FlatMachine.{prefix-law}
use Rattle.ceal_theory.proofs.walks.prefix_law.Goals as goal

pub returns : goal.returns
returns c = record { law = prefix-law }
