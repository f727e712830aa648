use Rattle.ceal_compile.proofs.Coded.{one_code}
use Rattle.ceal_compile.proofs.laws.one_code.Goals as goal

pub returns : goal.returns
returns c = record { law = one_code c.one_law.ensures.law }
