use Rattle.ceal_snap.proofs.Plain.{no-mark}
use Rattle.ceal_snap.proofs.laws.no_mark_law.Goals as goal

pub returns : goal.returns
returns c = record { law = no-mark }
