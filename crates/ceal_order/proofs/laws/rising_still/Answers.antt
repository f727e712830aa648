use Rattle.ceal_order.proofs.RisingLemmas.{rising_kept, rising_inserted, rising_deleted}
use Rattle.ceal_order.proofs.laws.rising_still.Goals as goal

pub returns-clause-law : goal.returns-clause-law
returns-clause-law c = λ stamps old new. rising_kept stamps old new

pub returns-clause-inserted : goal.returns-clause-inserted
returns-clause-inserted c = rising_inserted

pub returns-clause-deleted : goal.returns-clause-deleted
returns-clause-deleted c = rising_deleted
