use Rattle.ceal_memo.proofs.Scrambling.{apart}
use Rattle.ceal_memo.proofs.laws.scrambled_apart.Goals as goal

pub returns : goal.returns
returns c = record { law = apart }
