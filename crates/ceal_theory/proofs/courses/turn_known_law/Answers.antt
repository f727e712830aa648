use Rattle.ceal_theory.proofs.Nodes.TurnCourse.{turn-known-law}
use Rattle.ceal_theory.proofs.courses.turn_known_law.Goals as goal

pub returns : goal.returns
returns c = record { law = turn-known-law }
