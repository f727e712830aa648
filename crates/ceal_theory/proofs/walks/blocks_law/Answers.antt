use Rattle.ceal_theory.proofs.Work.ItemCounts.{blocks-law}
use Rattle.ceal_theory.proofs.walks.blocks_law.Goals as goal

pub returns : goal.returns
returns c = record { law = blocks-law }
