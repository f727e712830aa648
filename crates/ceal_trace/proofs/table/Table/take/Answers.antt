use Rattle.std.proofs.Common.{◌≡◌, sym, ap, ◌∙◌, ℕ, length}
use Rattle.ceal_trace.specs.declared.slot.Slot.{Slot}
use Rattle.ceal_trace.specs.Nodes.{ended_by}
use Rattle.ceal_trace.specs.Keeping.{node_of}
use Rattle.ceal_trace.specs.Shelves.{at, or_root}
use Rattle.ceal_trace.specs.Slots.{table}
use Rattle.ceal_trace.proofs.Tabling.{rows_long, node_at, ended_low, take_table, taken_from}
use Rattle.ceal_trace.proofs.table.Table.take.Goals as goal

pub reopen-requires : goal.reopen-requires
reopen-requires c =
    let slots = c.self.inside.slots.items in
    let shelf = c.self.inside.shelf in
    let low = rw (← c.self.view_is) at c.requires.read in
    let key = ap (λ (x : Slot). x.key) c.take_key-slot.ensures.is in
    let is : node_of (table slots shelf) c.args.at.0 ≡ c.take-node.result =
    node_at slots shelf c.self.invariant c.args.at.0 ∙ ap (λ (k : ℕ). or_root (at shelf k)) (sym key) ∙ ap or_root c.take-node.ensures.was in
    rw (c.take_key-slot.ensures.set.long, ← rows_long slots shelf c.self.invariant)
    (ended_low (node_of (table slots shelf) c.args.at.0) (length (table slots shelf).rows) low c.ended_by.result (c.ended_by.ensures ∙ ap ended_by (sym is)))

pub invariant_of-self : goal.invariant_of-self
invariant_of-self c =
    let held = rw (← c.self.view_is) at c.requires.some in
    take_table _ _ _ _ _ _ _ _ c.self.invariant held c.take_key-slot.ensures c.take-node.ensures (c.reopen.ensures _ c.ended_by.ensures)

pub returns-clause-node : goal.returns-clause-node
returns-clause-node c =
    let held = rw (← c.self.view_is) at c.requires.some in
    rw (← c.self.view_is) (taken_from _ _ _ _ _ _ _ _ c.self.invariant held c.take_key-slot.ensures c.take-node.ensures (c.reopen.ensures _ c.ended_by.ensures))
