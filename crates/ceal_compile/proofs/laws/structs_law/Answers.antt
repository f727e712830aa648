use Rattle.ceal_compile.proofs.Coded.{same_structs}
use Rattle.ceal_compile.proofs.laws.structs_law.Goals as goal

pub returns : goal.returns
returns c = record { law = same_structs }
