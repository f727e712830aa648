use Rattle.ceal_cli.proofs.Accepted.Workloads.{accepted-law}
use Rattle.ceal_cli.proofs.laws.accepted_law.Goals as goal

pub returns : goal.returns
returns c = record { law = accepted-law }
