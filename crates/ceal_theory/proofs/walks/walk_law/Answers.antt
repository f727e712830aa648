use Rattle.ceal_theory.proofs.Store.Walk.{walk-law}
use Rattle.ceal_theory.proofs.walks.walk_law.Goals as goal

pub returns : goal.returns
returns c = record { law = walk-law }
