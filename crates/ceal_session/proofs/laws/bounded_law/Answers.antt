use Rattle.ceal_session.proofs.Replies.BoundedReplies.{bounded-law}
use Rattle.ceal_session.proofs.laws.bounded_law.Goals as goal

pub returns : goal.returns
returns c = record { law = bounded-law c.progress_law.ensures.law c.command_or_none.ensures c.fitting_is_whole.ensures.law c.some_text.ensures.law c.one_reply.ensures.command }
