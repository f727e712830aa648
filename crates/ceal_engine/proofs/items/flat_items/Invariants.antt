use Rattle.ceal_engine.proofs.Flattening.{Walking}
use Rattle.ceal_engine.proofs.items.flat_items.Given as goal

abbrev pub invariant-loop-node : goal.invariant-loop-node
invariant-loop-node l = Walking l.trace.nodes l.items.items l.next
