use Rattle.ceal_engine.specs.Cost.{CostOfCall}
use Rattle.ceal_session.proofs.steps.make_if.Goals as goal

-- what is refused leaves the engine as it was
pub returns-then-not-new_block_fits-clause-cost : goal.returns-then-not-new_block_fits-clause-cost
returns-then-not-new_block_fits-clause-cost c = CostOfCall.same
