use Rattle.ceal_theory.proofs.Reuse.StepsBetween.{bare-law}
use Rattle.ceal_theory.proofs.courses.bare_law.Goals as goal

pub returns : goal.returns
returns c = record { law = bare-law }
