use Rattle.ceal_grammar.proofs.Verdicts.{either}
use Rattle.ceal_grammar.proofs.laws.either.Goals as goal

pub returns : goal.returns
returns c = record { law = either }
