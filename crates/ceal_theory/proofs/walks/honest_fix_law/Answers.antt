use Rattle.ceal_theory.proofs.Store.Walk.{honest-fix-law}
use Rattle.ceal_theory.proofs.walks.honest_fix_law.Goals as goal

pub returns : goal.returns
returns c = record { law = honest-fix-law }
