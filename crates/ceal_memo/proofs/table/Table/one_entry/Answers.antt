use Rattle.ceal_memo.proofs.Taking.{one_of_kept}
use Rattle.ceal_memo.proofs.table.Table.one_entry.Goals as goal

pub returns : goal.returns
returns c = record { law = rw (← c.self.view_is) (one_of_kept _ _ c.self.invariant) }
