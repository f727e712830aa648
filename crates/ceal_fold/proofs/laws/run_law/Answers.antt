use Rattle.ceal_fold.proofs.Runs.{fresh-same}
use Rattle.ceal_fold.proofs.laws.run_law.Goals as goal

pub returns : goal.returns
returns c = record { law = fresh-same }
