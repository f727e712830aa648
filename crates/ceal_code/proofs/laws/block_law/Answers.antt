use Rattle.ceal_code.proofs.Words.StepLocality.{made-known, made-same}
use Rattle.ceal_code.proofs.laws.block_law.Goals as goal

pub returns : goal.returns
returns c = record {
  law = λ code inputs bs x y has agree key known. (made-known inputs bs x has y agree code key known, made-same inputs bs x has y agree code key known);
}
