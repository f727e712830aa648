use Rattle.ceal_theory.proofs.Store.KnownContent.{known-content-law}
use Rattle.ceal_theory.proofs.walks.known_content_law.Goals as goal

pub returns : goal.returns
returns c = record { law = known-content-law }
