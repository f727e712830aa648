use Rattle.ceal_compile.proofs.Coded.{same_calls}
use Rattle.ceal_compile.proofs.laws.calls_law.Goals as goal

pub returns : goal.returns
returns c = record { law = same_calls }
