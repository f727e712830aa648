use Rattle.ceal_many.proofs.AloneLaws.{own-law, refused-law, names-law}
use Rattle.ceal_many.proofs.laws.own_replies.Goals as goal

pub returns-clause-own : goal.returns-clause-own
returns-clause-own g c = own-law g.A.Answerer.answers

pub returns-clause-refused : goal.returns-clause-refused
returns-clause-refused g c = refused-law g.A.Answerer.answers

pub returns-clause-names : goal.returns-clause-names
returns-clause-names g c = names-law g.A.Answerer.answers
