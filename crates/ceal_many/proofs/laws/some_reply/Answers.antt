use Rattle.ceal_many.proofs.SomeLaws.{kept-law, some-law}
use Rattle.ceal_many.proofs.laws.some_reply.Goals as goal

pub returns-clause-kept : goal.returns-clause-kept
returns-clause-kept g c = kept-law g.A.Answerer.needs g.A.Answerer.answers

pub returns-clause-script : goal.returns-clause-script
returns-clause-script g c = some-law g.A.Answerer.needs g.A.Answerer.answers
