use Rattle.ceal_snap.proofs.Decided.{save-or-none}
use Rattle.ceal_snap.proofs.laws.save_or_none.Goals as goal

pub returns : goal.returns
returns c = record { law = save-or-none }
