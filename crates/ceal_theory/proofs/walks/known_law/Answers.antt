use Rattle.ceal_theory.proofs.Store.KnownBlocks.{knowing-law}
use Rattle.ceal_theory.proofs.walks.known_law.Goals as goal

pub returns : goal.returns
returns c = record { law = knowing-law }
