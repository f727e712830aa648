use Rattle.ceal_engine.proofs.EngineLaws.{kept-law}
use Rattle.ceal_engine.proofs.laws.kept_law.Goals as goal

pub returns : goal.returns
returns c = record { law = kept-law }
