use Rattle.ceal_code.proofs.Replay.StackOver.{next-on}
use Rattle.ceal_code.proofs.laws.over_law.Goals as goal

pub returns : goal.returns
returns c = record { law = λ code x st below. next-on code x below st }
