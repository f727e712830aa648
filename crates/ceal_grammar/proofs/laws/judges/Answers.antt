use Rattle.ceal_grammar.proofs.Exact.{accepted, complete, faulty, first_given}
use Rattle.ceal_grammar.proofs.laws.judges.Goals as goal

pub returns : goal.returns
returns c = record { accepted = accepted; complete = complete; faulty = faulty; first = first_given }
