use Rattle.ceal_engine.proofs.CostOfCalls.{cost-law}
use Rattle.ceal_engine.proofs.laws.cost_law.Goals as goal

pub returns : goal.returns
returns c = record { law = cost-law }
