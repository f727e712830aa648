use Rattle.std.proofs.Common.{◌≡◌, ◌-◌, length, true}
use Rattle.ceal_trace.specs.Nodes.{has_node, position, stamps_in}
use Rattle.ceal_runtime_tests.proofs.trace.forest.Given as goal

abbrev pub invariant-loop-next : goal.invariant-loop-next
invariant-loop-next g l = has_node l.at.0 l.trace.nodes ≡ true

abbrev pub decreases-loop-next : goal.decreases-loop-next
decreases-loop-next g l = length (stamps_in l.trace.nodes) - position l.at.0 l.trace.nodes
