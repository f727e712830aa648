use Rattle.ceal_session.proofs.Replies.ScriptReplies.{some-script}
use Rattle.ceal_session.proofs.Replies.ReplyExists.{begun-stands, dropped-law, some-reply}
use Rattle.ceal_session.proofs.laws.some_reply.Goals as goal

-- each kind of command has a reply, by the laws of the parts that answer it
pub returns : goal.returns
returns c =
    let reply = some-reply c.progress_law.ensures.law c.command_or_none.ensures c.fitting_is_whole.ensures.law c.some_text.ensures.law in
    record {
      begun = begun-stands;
      reply = reply;
      script = some-script reply;
      dropped = dropped-law c.progress_law.ensures.law c.command_or_none.ensures c.fitting_is_whole.ensures.law c.some_text.ensures.law;
    }
