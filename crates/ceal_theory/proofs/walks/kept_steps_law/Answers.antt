use Rattle.ceal_theory.proofs.Work.KeptSteps.{kept-law}
use Rattle.ceal_theory.proofs.walks.kept_steps_law.Goals as goal

pub returns : goal.returns
returns c = record { law = kept-law }
