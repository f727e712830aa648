use Rattle.ceal_fold.proofs.Validity.{folded-valid}
use Rattle.ceal_fold.proofs.laws.valid_law.Goals as goal

pub returns : goal.returns
returns c = record { law = folded-valid }
