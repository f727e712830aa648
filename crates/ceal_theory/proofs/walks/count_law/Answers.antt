use Rattle.ceal_theory.proofs.Work.ItemCounts.{count-law}
use Rattle.ceal_theory.proofs.walks.count_law.Goals as goal

pub returns : goal.returns
returns c = record { law = count-law }
