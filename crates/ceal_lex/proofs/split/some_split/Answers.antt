use Rattle.ceal_lex.proofs.Either.{some_split}
use Rattle.ceal_lex.proofs.split.some_split.Goals as goal

pub returns : goal.returns
returns c = some_split
