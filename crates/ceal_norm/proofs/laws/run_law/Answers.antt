use Rattle.ceal_norm.proofs.Runs.SameRuns.{run-law}
use Rattle.ceal_norm.proofs.laws.run_law.Goals as goal

pub returns : goal.returns
returns c = record { law = run-law }
