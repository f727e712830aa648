use Rattle.ceal_code.proofs.Words.StepLocality.{next-known, next-same}
use Rattle.ceal_code.proofs.laws.step_law.Goals as goal

pub returns : goal.returns
returns c = record {
  law = λ code inputs bs x y has more st known. (next-known inputs bs x has y more code st known, next-same inputs bs x has y more code st known);
}
