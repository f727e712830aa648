use Rattle.ceal_code.proofs.Replay.RunEnds.{inputs-law}
use Rattle.ceal_code.proofs.laws.inputs_law.Goals as goal

pub returns : goal.returns
returns c = record { law = inputs-law }
