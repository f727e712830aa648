use Rattle.ceal_engine.proofs.EngineLaws.{begins-law}
use Rattle.ceal_engine.proofs.laws.begins_law.Goals as goal

pub returns : goal.returns
returns c = record { law = begins-law }
