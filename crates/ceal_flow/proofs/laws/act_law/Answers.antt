use Rattle.ceal_flow.proofs.Reached.{act-simple}
use Rattle.ceal_flow.proofs.laws.act_law.Goals as goal

pub returns : goal.returns
returns c = record { law = act-simple }
