use Rattle.ceal_cost.proofs.Apart.{stale-law}
use Rattle.ceal_cost.proofs.laws.stale_law.Goals as goal

pub returns : goal.returns
returns c = record { law = stale-law }
