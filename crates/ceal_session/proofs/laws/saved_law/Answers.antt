use Rattle.ceal_session.proofs.Saves.SaveOfSession.{saved-law, one-saved}
use Rattle.ceal_session.proofs.laws.saved_law.Goals as goal

pub returns : goal.returns
returns c = record { law = saved-law c.renamed_law.ensures.law; one = one-saved c.one_record_law.ensures.law }
