use Rattle.ceal_trace.proofs.Tabling.{slot_value_set}
use Rattle.ceal_trace.proofs.table.Table.set_value.Goals as goal

pub returns : goal.returns
returns c =
    let held = rw (← c.self.view_is) at c.requires in
    rw (← c.self.view_is) (slot_value_set _ _ _ _ _ _ c.self.invariant held (rw c.deref.ensures.value at c.slot_at-slot.ensures) c.set_value.ensures)
