use Rattle.ceal_session.proofs.Saves.ResumedReplies.{resaved-law, resumed-law}
use Rattle.ceal_session.proofs.laws.resumed_law.Goals as goal

pub returns : goal.returns
returns c = record {
  law = resumed-law c.renaming_law.ensures.law c.alike_law.ensures.law;
  again = resaved-law c.renaming_law.ensures.law c.saved_law.ensures.law c.saved_law.ensures.one;
}
