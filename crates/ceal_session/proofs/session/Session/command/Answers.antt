use Rattle.std.proofs.Common.{ap, inl}
use Rattle.ceal_session.proofs.Replies.TextOfReply.{if-ok, on-err, on-ok}
use Rattle.ceal_session.specs.SessionState.{situation}
use Rattle.ceal_session.proofs.session.Session.command.Goals as goal

-- the text is the answer's, and copying it leaves the session as it is
pub returns-clause-reply : goal.returns-clause-reply
returns-clause-reply c = if-ok c.text.result (λ text same. rw same c.in_ok-answer.ensures.reply) c.text.ensures.ok

pub returns-clause-answers : goal.returns-clause-answers
returns-clause-answers c = if-ok c.text.result (λ text same. λ m h. rw same (c.in_ok-answer.ensures.answers m h)) c.text.ensures.ok

pub returns-clause-trace : goal.returns-clause-trace
returns-clause-trace c = on-ok c.text.result c.in_ok-answer.ensures.trace

pub returns-clause-cost : goal.returns-clause-cost
returns-clause-cost c = on-ok c.text.result c.in_ok-answer.ensures.cost

pub returns-clause-bounded : goal.returns-clause-bounded
returns-clause-bounded c = on-ok c.text.result c.in_ok-answer.ensures.bounded

-- a long answer has changed nothing
pub returns-clause-left : goal.returns-clause-left
returns-clause-left c = on-err c.text.result (λ long. inl (ap situation (c.in_ok-answer.ensures.long long))) c.text.ensures.err
