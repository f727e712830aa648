use Rattle.ceal_theory.proofs.Store.Walk.{content-law}
use Rattle.ceal_theory.proofs.walks.content_law.Goals as goal

pub returns : goal.returns
returns c = record { law = content-law }
