use Rattle.ceal_flow.proofs.OneAnswer.{one-answer}
use Rattle.ceal_flow.proofs.laws.one_law.Goals as goal

pub returns : goal.returns
returns c = record { law = one-answer }
