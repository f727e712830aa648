use Rattle.std.proofs.Common.{refl, sym, ◌∙◌}
use Rattle.ceal_trace.specs.Nodes.{stamps_in}
use Rattle.ceal_repair.proofs.TableCalls.BaseEdit.{pop-tells}
use Rattle.ceal_repair.proofs.TableCalls.FewLooks.{of-some, of-none}
use Rattle.ceal_repair.proofs.tables.Tables.unqueue.Goals as goal

-- the read was queued exactly if it was found in front
pub returns-clause-was : goal.returns-clause-was
returns-clause-was c =
    let t = pop-tells (stamps_in c.args.self.now.trace.nodes) c.args.self.now.stale.stamps c.args.read.0 c.next-next.result c.requires.here c.requires.stale c.requires.first
    (rw c.order.ensures at c.next-next.ensures.after) (rw c.order.ensures at c.next-next.ensures.at_end) c.pop_before.new.self c.args.self.now.stale c.pop_before.result refl
    (rw c.order-2.ensures at c.pop_before.ensures.earliest) (rw c.order-2.ensures at c.pop_before.ensures.before) c.pop_before.ensures.without
    (rw c.order-2.ensures at c.pop_before.ensures.none) c.pop_before.ensures.unchanged in
    (λ h. sym t.1 ∙ (sym c.is_some.ensures ∙ h), λ h. c.is_some.ensures ∙ (t.1 ∙ h))

-- where it was not found in front it was not queued, and nothing has changed
pub returns-clause-without : goal.returns-clause-without
returns-clause-without c =
    (pop-tells (stamps_in c.args.self.now.trace.nodes) c.args.self.now.stale.stamps c.args.read.0 c.next-next.result c.requires.here c.requires.stale c.requires.first
    (rw c.order.ensures at c.next-next.ensures.after) (rw c.order.ensures at c.next-next.ensures.at_end) c.pop_before.new.self c.args.self.now.stale c.pop_before.result refl
    (rw c.order-2.ensures at c.pop_before.ensures.earliest) (rw c.order-2.ensures at c.pop_before.ensures.before) c.pop_before.ensures.without
    (rw c.order-2.ensures at c.pop_before.ensures.none) c.pop_before.ensures.unchanged).0

pub returns-clause-fewer : goal.returns-clause-fewer
returns-clause-fewer c = λ told. of-some c.pop_before.result (sym c.is_some.ensures ∙ told) c.pop_before.ensures.fewer

pub returns-clause-absent : goal.returns-clause-absent
returns-clause-absent c = λ told. of-none c.pop_before.result (sym c.is_some.ensures ∙ told) c.pop_before.ensures.unchanged
