use Rattle.ceal_session.proofs.Saves.SavedAgain.{become, becomes, saved-after, saved-again}
use Rattle.ceal_session.specs.SavedAgain.{SavedAfterLaw}
use Rattle.ceal_session.proofs.laws.saved_again_law.Goals as goal

pub returns : goal.returns
returns c =
    let behind : SavedAfterLaw = saved-after c.resumed_law.ensures.law c.one_script.ensures.law c.saved_law.ensures.law in
    record {
      after = behind;
      again = saved-again behind c.saved_law.ensures.law c.saved_law.ensures.one;
      line = becomes c.kept_line.ensures.law;
      lines = become c.one_script.ensures.joined;
    }
