use Rattle.ceal_script.proofs.Numerals.{digits-alike}
use Rattle.ceal_script.proofs.laws.digits_law.Goals as goal

pub returns : goal.returns
returns c = record { law = digits-alike }
