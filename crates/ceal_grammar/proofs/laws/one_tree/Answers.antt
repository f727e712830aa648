use Rattle.ceal_grammar.proofs.Verdicts.{one_tree}
use Rattle.ceal_grammar.proofs.laws.one_tree.Goals as goal

pub returns : goal.returns
returns c = record { law = one_tree }
