use Rattle.ceal_session.proofs.Saves.SaveThatHolds.{held}
use Rattle.ceal_session.proofs.laws.held_law.Goals as goal

pub returns : goal.returns
returns c = record { law = held }
