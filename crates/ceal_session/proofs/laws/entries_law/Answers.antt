use Rattle.ceal_session.proofs.Replies.RepliesByEntries.{entries, one-text}
use Rattle.ceal_session.proofs.Replies.ReplyExists.{line-facts}
use Rattle.ceal_session.proofs.laws.entries_law.Goals as goal

-- each line that runs has one entry, and so the replies are one text
pub returns : goal.returns
returns c = record {
  law = entries (λ m line command reads st. (line-facts c.progress_law.ensures.law c.command_or_none.ensures c.fitting_is_whole.ensures.law c.some_text.ensures.law m line command reads st).stands);
  one = one-text c.one_reply.ensures.command c.one_reply.ensures.answer c.one_reply.ensures.state;
}
