use Rattle.ceal_theory.proofs.Store.MoreInputs.{inputs-law}
use Rattle.ceal_theory.proofs.walks.more_inputs_law.Goals as goal

pub returns : goal.returns
returns c = record { law = inputs-law }
