use Rattle.ceal_engine.specs.Cost.{CostOfCall}
use Rattle.ceal_session.proofs.commands.start.Goals as goal

-- what is refused leaves the engine as it was
pub returns-in-Err-clause-cost : goal.returns-in-Err-clause-cost
returns-in-Err-clause-cost c = CostOfCall.same
