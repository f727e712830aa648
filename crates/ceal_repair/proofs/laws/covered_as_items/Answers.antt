use Rattle.ceal_repair.proofs.QueueCover.TheoryCover.{covered-as-items}
use Rattle.ceal_repair.proofs.laws.covered_as_items.Goals as goal

pub returns : goal.returns
returns c = record { law = covered-as-items }
