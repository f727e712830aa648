use Rattle.ceal_script.proofs.CommandLaws.{no_keyword}
use Rattle.ceal_script.proofs.forms.named.Goals as goal

pub returns-in-None : goal.returns-in-None
returns-in-None c = no_keyword _ _ c.requires c.in-None.ensures.none
