use Rattle.ceal_theory.proofs.Reuse.TakenAfterRevocation.{taking-law}
use Rattle.ceal_theory.proofs.courses.taking_law.Goals as goal

pub returns : goal.returns
returns c = record { law = taking-law }
