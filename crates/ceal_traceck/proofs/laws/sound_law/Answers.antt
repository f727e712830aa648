use Rattle.ceal_traceck.proofs.Sound.{sound-law}
use Rattle.ceal_traceck.proofs.laws.sound_law.Goals as goal

pub returns : goal.returns
returns c = record { law = sound-law }
