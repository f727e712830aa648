use Rattle.ceal_session.proofs.Replies.ReplyExists.{line-facts}
use Rattle.ceal_session.proofs.Situations.PartsOfRepair.{end-law, whole-law}
use Rattle.ceal_session.proofs.laws.sliced_law.Goals as goal

pub returns : goal.returns
returns c =
    let facts = line-facts c.progress_law.ensures.law c.command_or_none.ensures c.fitting_is_whole.ensures.law c.some_text.ensures.law in
    record { end = end-law c.one_reply.ensures.command facts; whole = whole-law c.one_reply.ensures.command facts }
