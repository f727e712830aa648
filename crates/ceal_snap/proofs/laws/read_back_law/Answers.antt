use Rattle.ceal_snap.proofs.ReadBack.{read-back}
use Rattle.ceal_snap.proofs.laws.read_back_law.Goals as goal

pub returns : goal.returns
returns c = record { law = read-back }
