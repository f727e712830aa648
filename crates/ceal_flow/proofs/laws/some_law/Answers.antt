use Rattle.ceal_flow.proofs.SomeAnswer.{some-answer}
use Rattle.ceal_flow.proofs.laws.some_law.Goals as goal

pub returns : goal.returns
returns c = record { law = some-answer }
