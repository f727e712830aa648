use Rattle.ceal_show.proofs.Renamed.{text_renamed}
use Rattle.ceal_show.proofs.laws.same_text.Goals as goal

pub returns : goal.returns
returns c = record { law = text_renamed }
