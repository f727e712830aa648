use Rattle.ceal_session.proofs.Replies.EditsKeep.{by-edit-law, edit-law}
use Rattle.ceal_session.proofs.laws.kept_edit.Goals as goal

pub returns : goal.returns
returns c =
    record {
      law = edit-law c.progress_law.ensures.law c.command_or_none.ensures c.fitting_is_whole.ensures.law c.some_text.ensures.law;
      handle = by-edit-law c.progress_law.ensures.law c.command_or_none.ensures c.fitting_is_whole.ensures.law c.some_text.ensures.law;
    }
