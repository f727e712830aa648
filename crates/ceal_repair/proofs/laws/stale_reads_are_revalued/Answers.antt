use Rattle.ceal_repair.proofs.Runs.Nearness.{stale-revalued}
use Rattle.ceal_repair.proofs.laws.stale_reads_are_revalued.Goals as goal

pub returns : goal.returns
returns c = record { law = stale-revalued }
