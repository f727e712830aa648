use Rattle.ceal_engine.specs.Cost.{CostOfCall}
use Rattle.ceal_session.proofs.steps.make_with.Goals as goal

-- what is refused leaves the engine as it was
pub returns-then-unknown-clause-cost : goal.returns-then-unknown-clause-cost
returns-then-unknown-clause-cost c = CostOfCall.same

pub returns-then-has-clause-cost : goal.returns-then-has-clause-cost
returns-then-has-clause-cost c = CostOfCall.same

pub returns-in-None-clause-cost : goal.returns-in-None-clause-cost
returns-in-None-clause-cost c = CostOfCall.same
