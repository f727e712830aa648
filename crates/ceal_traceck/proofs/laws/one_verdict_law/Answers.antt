use Rattle.ceal_traceck.proofs.Sound.{one-verdict-law}
use Rattle.ceal_traceck.proofs.laws.one_verdict_law.Goals as goal

pub returns : goal.returns
returns c = record { law = one-verdict-law }
