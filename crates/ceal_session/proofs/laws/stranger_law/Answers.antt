use Rattle.ceal_session.proofs.Situations.AlikeReplies.{call-law}
use Rattle.ceal_session.proofs.Replies.ReplyExists.{line-facts}
use Rattle.ceal_session.proofs.Situations.StrangerReplies.{stranger}
use Rattle.ceal_session.proofs.laws.stranger_law.Goals as goal

-- a session from a save that holds is one that has run the call, but for its work and its bound
pub returns : goal.returns
returns c = record {
  law = stranger (line-facts c.progress_law.ensures.law c.command_or_none.ensures c.fitting_is_whole.ensures.law c.some_text.ensures.law)
      (call-law c.progress_law.ensures.law c.command_or_none.ensures c.fitting_is_whole.ensures.law c.some_text.ensures.law)
      c.one_reply.ensures.command c.one_reply.ensures.answer c.alike_law.ensures.law;
}
