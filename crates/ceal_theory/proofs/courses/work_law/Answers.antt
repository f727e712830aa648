use Rattle.ceal_theory.proofs.Nodes.TurnCourse.{work-law}
use Rattle.ceal_theory.proofs.courses.work_law.Goals as goal

pub returns : goal.returns
returns c = record { law = work-law }
