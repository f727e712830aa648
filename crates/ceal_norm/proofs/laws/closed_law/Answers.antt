use Rattle.ceal_norm.proofs.Jumps.JumpsLeadToBlocks.{graph-closed}
use Rattle.ceal_norm.proofs.laws.closed_law.Goals as goal

pub returns : goal.returns
returns c = record { law = graph-closed }
