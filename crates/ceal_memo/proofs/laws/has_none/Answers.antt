use Rattle.ceal_memo.proofs.Holding.{none_there, there_none}
use Rattle.ceal_memo.proofs.laws.has_none.Goals as goal

pub returns : goal.returns
returns c = record { law = λ memo entries s holds. (none_there memo entries holds s, there_none memo entries holds s) }
