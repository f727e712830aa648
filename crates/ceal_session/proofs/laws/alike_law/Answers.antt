use Rattle.ceal_session.proofs.Situations.AlikeReplies.{alike, call-law, follows-law}
use Rattle.ceal_session.proofs.laws.alike_law.Goals as goal

pub returns : goal.returns
returns c = record {
  law = alike c.some_reply.ensures.reply c.kept_line.ensures.law c.one_reply.ensures.reply
      (follows-law (call-law c.progress_law.ensures.law c.command_or_none.ensures c.fitting_is_whole.ensures.law c.some_text.ensures.law));
}
