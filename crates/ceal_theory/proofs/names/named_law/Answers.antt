use Rattle.ceal_theory.proofs.Renaming.GivenNumbers.{named-law}
use Rattle.ceal_theory.proofs.names.named_law.Goals as goal

pub returns : goal.returns
returns c = record { law = named-law }
