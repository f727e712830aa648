use Rattle.ceal_code.proofs.TypedCode.TypedRun.{progress}
use Rattle.ceal_code.proofs.laws.progress_law.Goals as goal

pub returns : goal.returns
returns c = record { law = λ code ok inputs f args h m st r. progress code ok inputs f args h m st r }
