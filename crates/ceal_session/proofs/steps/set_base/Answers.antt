use Rattle.ceal_engine.specs.Cost.{CostOfCall}
use Rattle.ceal_session.proofs.steps.set_base.Goals as goal

-- what is refused leaves the engine as it was
pub returns-then-not-fits_place-clause-cost : goal.returns-then-not-fits_place-clause-cost
returns-then-not-fits_place-clause-cost c = CostOfCall.same
