use Rattle.ceal_theory.proofs.Nodes.EngineMoves.{moves-law}
use Rattle.ceal_theory.proofs.courses.moves_law.Goals as goal

pub returns : goal.returns
returns c = record { law = moves-law }
