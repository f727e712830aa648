use Rattle.ceal_theory.proofs.Work.CostBound.{bound-law}
use Rattle.ceal_theory.proofs.cost.cost_law.Goals as goal

pub returns : goal.returns
returns c = record { law = bound-law }
