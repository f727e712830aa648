use Rattle.ceal_usage.proofs.NoFaults.{kept-iff}
use Rattle.ceal_usage.proofs.laws.kept_law.Goals as goal

pub returns : goal.returns
returns c = record { law = kept-iff }
