use Rattle.std.proofs.Common.{refl}
use Rattle.ceal_trace.proofs.Tabling.{steps_set}
use Rattle.ceal_trace.proofs.table.Table.set_steps.Goals as goal

pub returns : goal.returns
returns c = rw (← c.self.view_is) (steps_set _ _ c.self.inside.shelf _ _ c.self.invariant c.set_steps.ensures refl refl)
