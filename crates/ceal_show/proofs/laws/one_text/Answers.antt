use Rattle.ceal_show.proofs.OneText.{one_graph}
use Rattle.ceal_show.proofs.laws.one_text.Goals as goal

pub returns : goal.returns
returns c = record { law = one_graph }
