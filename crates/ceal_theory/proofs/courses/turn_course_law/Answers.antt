use Rattle.ceal_theory.proofs.Nodes.TurnCourse.{turn-course-law}
use Rattle.ceal_theory.proofs.courses.turn_course_law.Goals as goal

pub returns : goal.returns
returns c = record { law = turn-course-law }
