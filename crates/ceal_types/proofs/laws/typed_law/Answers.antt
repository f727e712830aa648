use Rattle.ceal_types.proofs.Typing.ProgramTyped.{answered-typed}
use Rattle.ceal_types.proofs.laws.typed_law.Goals as goal

pub returns : goal.returns
returns c = record { law = answered-typed }
