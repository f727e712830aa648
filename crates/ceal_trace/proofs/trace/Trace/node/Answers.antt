use Rattle.std.proofs.Common.{sym, ap, ◌∙◌, Some}
use Rattle.ceal_trace.specs.declared.node.Node.{Node}
use Rattle.ceal_trace.proofs.Keeps.{there_is}
use Rattle.ceal_trace.proofs.Removing.{held_is}
use Rattle.ceal_trace.proofs.trace.Trace.node.Goals as goal

pub node-requires : goal.node-requires
node-requires c =
    let here = there_is c.self.inside.order c.self.inside.table c.args.stamp.0 (rw (← c.self.view_is) at c.requires.here) in
    c.self.invariant.has_nodes.held _ here

pub returns : goal.returns
returns c =
    let here = there_is c.self.inside.order c.self.inside.table c.args.stamp.0 (rw (← c.self.view_is) at c.requires.here) in
    rw (← c.self.view_is) (record { node = held_is c.self.inside.order c.self.inside.table c.args.stamp.0 here ∙ ap (λ (n : Node). Some n) (sym c.node.ensures) })
