use Rattle.std.proofs.Common.{◌≡◌, ◌-◌, length, true}
use Rattle.ceal_trace.specs.Nodes.{has_node, position, stamps_in}
use Rattle.ceal_engine_tests.proofs.nodes.items_of.Given as goal

abbrev pub invariant-loop-next : goal.invariant-loop-next
invariant-loop-next l = has_node l.at.0 l.trace.nodes ≡ true

abbrev pub decreases-loop-next : goal.decreases-loop-next
decreases-loop-next l = length (stamps_in l.trace.nodes) - position l.at.0 l.trace.nodes
