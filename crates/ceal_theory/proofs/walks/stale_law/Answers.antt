use Rattle.ceal_theory.proofs.Store.Walk.{stale-law}
use Rattle.ceal_theory.proofs.walks.stale_law.Goals as goal

pub returns : goal.returns
returns c = record { law = stale-law }
