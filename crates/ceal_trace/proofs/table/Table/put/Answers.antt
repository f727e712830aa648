use Rattle.ceal_trace.proofs.Tabling.{rows_long, put_table, put_at}
use Rattle.ceal_trace.proofs.table.Table.put.Goals as goal

pub invariant_of-self : goal.invariant_of-self
invariant_of-self g c =
    let few = rw (← c.self.view_is) at c.requires.few in
    put_table _ _ _ _ _ _ _ c.self.invariant (rw (rows_long c.self.inside.slots.items c.self.inside.shelf c.self.invariant) at few) c.put-key.ensures c.put_key.ensures

pub returns : goal.returns
returns g c =
    let few = rw (← c.self.view_is) at c.requires.few in
    rw (← c.self.view_is) (put_at _ _ _ _ _ _ _ c.self.invariant (rw (rows_long c.self.inside.slots.items c.self.inside.shelf c.self.invariant) at few) c.put-key.ensures c.put_key.ensures)
