use Rattle.ceal_session.proofs.Replies.HandleStays.{handle-law}
use Rattle.ceal_session.proofs.Replies.ReplyExists.{line-facts}
use Rattle.ceal_session.proofs.laws.kept_handle.Goals as goal

pub returns : goal.returns
returns c = record {
  law = handle-law (line-facts c.progress_law.ensures.law c.command_or_none.ensures c.fitting_is_whole.ensures.law c.some_text.ensures.law);
}
