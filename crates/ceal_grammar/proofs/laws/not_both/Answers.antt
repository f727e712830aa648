use Rattle.ceal_grammar.proofs.Verdicts.{not_both}
use Rattle.ceal_grammar.proofs.laws.not_both.Goals as goal

pub returns : goal.returns
returns c = record { law = not_both }
