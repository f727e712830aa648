use Rattle.ceal_traceck.proofs.SomeVerdict.{some-verdict}
use Rattle.ceal_traceck.proofs.laws.some_verdict_law.Goals as goal

pub returns : goal.returns
returns c = record { law = some-verdict }
