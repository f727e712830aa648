use Rattle.ceal_session.proofs.Replies.OneReply.{one-script, joined}
use Rattle.ceal_session.proofs.laws.one_script.Goals as goal

pub returns : goal.returns
returns c = record { law = one-script c.one_reply.ensures.reply; joined = joined }
