use Rattle.ceal_theory.proofs.MoveMachine.ChosenNumbers.{chosen-law}
use Rattle.ceal_theory.proofs.names.chosen_law.Goals as goal

pub returns : goal.returns
returns c = record { law = chosen-law }
