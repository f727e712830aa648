use Rattle.ceal_cli.proofs.Accepted.Workloads.{short-law}
use Rattle.ceal_cli.proofs.laws.short_law.Goals as goal

pub returns : goal.returns
returns c = record { law = short-law }
