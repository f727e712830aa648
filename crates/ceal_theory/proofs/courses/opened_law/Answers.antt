use Rattle.ceal_theory.proofs.Nodes.Layers.{opened-law}
use Rattle.ceal_theory.proofs.courses.opened_law.Goals as goal

pub returns : goal.returns
returns c = record { law = opened-law }
