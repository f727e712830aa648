use Rattle.ceal_session.proofs.Replies.FramedReplies.{framed-law}
use Rattle.ceal_session.proofs.laws.framed_law.Goals as goal

pub returns : goal.returns
returns c = record { law = framed-law c.one_reply.ensures.command }
