use Rattle.ceal_show.proofs.WholeMemory.{fitting_whole}
use Rattle.ceal_show.proofs.laws.fitting_is_whole.Goals as goal

pub returns : goal.returns
returns c = record { law = fitting_whole }
