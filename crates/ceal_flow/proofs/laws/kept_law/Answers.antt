use Rattle.ceal_flow.proofs.Reached.{kept-reached, reached-kept}
use Rattle.ceal_flow.proofs.laws.kept_law.Goals as goal

pub returns : goal.returns
returns c = record { law = λ p b. (kept-reached p b, reached-kept p b) }
