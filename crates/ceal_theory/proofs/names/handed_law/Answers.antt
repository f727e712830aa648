use Rattle.ceal_theory.proofs.Renaming.GivenNumbers.{handed-law}
use Rattle.ceal_theory.proofs.names.handed_law.Goals as goal

pub returns : goal.returns
returns c = record { law = handed-law }
