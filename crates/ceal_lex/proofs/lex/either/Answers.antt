use Rattle.ceal_lex.proofs.Either.{either}
use Rattle.ceal_lex.proofs.lex.either.Goals as goal

pub returns : goal.returns
returns c = record { law = either }
