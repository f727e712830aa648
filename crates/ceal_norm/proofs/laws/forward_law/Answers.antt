use Rattle.ceal_norm.proofs.Jumps.ForwardJumps.{graph-forward}
use Rattle.ceal_norm.proofs.laws.forward_law.Goals as goal

pub returns : goal.returns
returns c = record { law = graph-forward }
