use Rattle.ceal_code.proofs.TypedCode.CommandsOnPath.{on-right-path}
use Rattle.ceal_code.proofs.laws.path_law.Goals as goal

pub returns : goal.returns
returns c = record { law = λ code ok u unit there i c e. on-right-path code ok u unit there i c e }
