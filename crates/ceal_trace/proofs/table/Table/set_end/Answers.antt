use Rattle.std.proofs.Common.{refl}
use Rattle.ceal_trace.proofs.Tabling.{end_set}
use Rattle.ceal_trace.proofs.table.Table.set_end.Goals as goal

pub returns : goal.returns
returns c = rw (← c.self.view_is) (end_set _ _ c.self.inside.shelf _ _ c.self.invariant c.set_end.ensures refl refl)
