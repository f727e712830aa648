use Rattle.ceal_theory.proofs.Renaming.GivenNumbers.{renaming-law}
use Rattle.ceal_theory.proofs.names.renaming_law.Goals as goal

pub returns : goal.returns
returns c = record { law = renaming-law }
