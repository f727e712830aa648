use Rattle.ceal_cli.proofs.Sessions.GrowingReplies.{untold}
use Rattle.ceal_cli.proofs.answer.take.Goals as goal

pub returns-in-Resume-clause-taken : goal.returns-in-Resume-clause-taken
returns-in-Resume-clause-taken g c = rw c.in-Resume.is c.resume.ensures.taken

pub returns-in-Resume-clause-readable : goal.returns-in-Resume-clause-readable
returns-in-Resume-clause-readable g c = rw c.in-Resume.is (untold c.resume.result)

pub returns-in-Resume-clause-cut : goal.returns-in-Resume-clause-cut
returns-in-Resume-clause-cut g c = λ _ _ fuel is. absurd (cc (c.in-Resume.is, is))
