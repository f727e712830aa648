use Rattle.ceal_theory.proofs.Repair.EndAsFromScratch.{first-law}
use Rattle.ceal_theory.proofs.laws.first_law.Goals as goal

pub returns : goal.returns
returns c = record { law = λ code inputs f args fits n. first-law code inputs f args fits n }
