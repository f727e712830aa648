use Rattle.ceal_grammar.proofs.Verdicts.{one_fault}
use Rattle.ceal_grammar.proofs.laws.one_fault.Goals as goal

pub returns : goal.returns
returns c = record { law = one_fault }
