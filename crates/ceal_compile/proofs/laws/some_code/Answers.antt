use Rattle.ceal_compile.proofs.Coded.{some_code}
use Rattle.ceal_compile.proofs.laws.some_code.Goals as goal

pub returns : goal.returns
returns c = record { law = some_code c.some_law.ensures.law }
