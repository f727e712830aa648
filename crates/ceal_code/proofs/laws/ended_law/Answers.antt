use Rattle.ceal_code.proofs.Replay.RunEnds.{ended-law, state-law}
use Rattle.ceal_code.proofs.laws.ended_law.Goals as goal

pub returns : goal.returns
returns c = record { law = ended-law; states = state-law }
