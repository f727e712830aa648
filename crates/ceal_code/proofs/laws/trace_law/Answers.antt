use Rattle.ceal_code.proofs.Replay.ReplayedCall.{trace-law}
use Rattle.ceal_code.proofs.laws.trace_law.Goals as goal

pub returns : goal.returns
returns c = record { law = λ code inputs f args fits l r h. trace-law code inputs f args fits l r h }
