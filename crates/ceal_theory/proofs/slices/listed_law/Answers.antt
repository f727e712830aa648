use Rattle.ceal_theory.proofs.Store.WritesByPlace.{listed-law}
use Rattle.ceal_theory.proofs.slices.listed_law.Goals as goal

pub returns : goal.returns
returns c = record { law = listed-law }
