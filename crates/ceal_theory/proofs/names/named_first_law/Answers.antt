use Rattle.ceal_theory.proofs.Renaming.GivenNumbers.{named-first-law}
use Rattle.ceal_theory.proofs.names.named_first_law.Goals as goal

pub returns : goal.returns
returns c = record { law = named-first-law }
