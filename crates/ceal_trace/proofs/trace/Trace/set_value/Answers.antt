use Rattle.ceal_trace.specs.Keeping.{timeline}
use Rattle.ceal_trace.proofs.Changing.{value_changed, value_now, value_steps_same, value_sum_same}
use Rattle.ceal_trace.proofs.Keeps.{there_is, trace-touched}
use Rattle.ceal_trace.proofs.Entries.{has-read}
use Rattle.ceal_trace.proofs.trace.Trace.set_value.Goals as goal

pub set_value-requires : goal.set_value-requires
set_value-requires c =
    let reads = rw (← c.self.view_is) at c.requires.read in
    c.self.invariant.has_nodes.held _ (there_is c.self.inside.order c.self.inside.table c.args.read.0 (has-read c.args.read.0 (timeline c.self.inside.order c.self.inside.table).nodes reads))

pub invariant_of-self : goal.invariant_of-self
invariant_of-self c =
    let reads = rw (← c.self.view_is) at c.requires.read in
    (value_changed _ _ _ _ _ _ c.self.invariant reads c.set_value.ensures).sound

pub returns-clause-nodes : goal.returns-clause-nodes
returns-clause-nodes c =
    let reads = rw (← c.self.view_is) at c.requires.read in
    rw (← c.self.view_is) (value_changed _ _ _ _ _ _ c.self.invariant reads c.set_value.ensures).nodes

pub returns-clause-changed : goal.returns-clause-changed
returns-clause-changed c =
    let reads = rw (← c.self.view_is) at c.requires.read in
    rw (← c.self.view_is) (value_now _ _ _ _ _ _ c.self.invariant reads c.set_value.ensures)

pub returns-clause-steps : goal.returns-clause-steps
returns-clause-steps c =
    let reads = rw (← c.self.view_is) at c.requires.read in
    rw (← c.self.view_is) (value_steps_same _ _ _ _ _ _ c.self.invariant reads c.set_value.ensures)

pub returns-clause-others : goal.returns-clause-others
returns-clause-others c =
    let reads = rw (← c.self.view_is) at c.requires.read in
    rw (← c.self.view_is) (value_changed _ _ _ _ _ _ c.self.invariant reads c.set_value.ensures).others

pub returns-clause-sum : goal.returns-clause-sum
returns-clause-sum c =
    let reads = rw (← c.self.view_is) at c.requires.read in
    rw (← c.self.view_is) (value_sum_same _ _ _ _ _ _ c.self.invariant reads c.set_value.ensures)

pub returns-clause-closed : goal.returns-clause-closed
returns-clause-closed c =
    let reads = rw (← c.self.view_is) at c.requires.read in
    rw (← c.self.view_is) (value_changed _ _ _ _ _ _ c.self.invariant reads c.set_value.ensures).closed

pub returns-clause-whole : goal.returns-clause-whole
returns-clause-whole c =
    let reads = rw (← c.self.view_is) at c.requires.read in
    trace-touched _ _ (value_changed _ _ _ _ _ _ c.self.invariant reads c.set_value.ensures).sound.is_trace
