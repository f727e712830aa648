use Rattle.ceal_compile.proofs.Coming.{some_answer}
use Rattle.ceal_compile.proofs.laws.some_answer.Goals as goal

pub returns : goal.returns
returns c = record { law = some_answer c.some_split.ensures c.either.ensures.law c.either-2.ensures.law }
