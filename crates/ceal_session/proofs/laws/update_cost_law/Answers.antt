use Rattle.ceal_session.proofs.Engine.CostOfUpdate.{update-cost-law}
use Rattle.ceal_session.proofs.laws.update_cost_law.Goals as goal

pub returns : goal.returns
returns c = record { law = update-cost-law c.cost_law.ensures.law }
