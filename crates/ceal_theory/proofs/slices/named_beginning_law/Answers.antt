use Rattle.ceal_theory.proofs.Renaming.NamedBeginning.{named-beginning-law}
use Rattle.ceal_theory.proofs.slices.named_beginning_law.Goals as goal

pub returns : goal.returns
returns c = record { law = named-beginning-law }
