use Rattle.ceal_many.proofs.AloneLaws.{alone-law}
use Rattle.ceal_many.proofs.laws.one_reply.Goals as goal

pub returns-clause-alone : goal.returns-clause-alone
returns-clause-alone g c = alone-law g.A.Answerer.answers
