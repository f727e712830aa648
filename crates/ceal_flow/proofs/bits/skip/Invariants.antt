use Rattle.ceal_flow.specs.Bits.{AreBefore}
use Rattle.ceal_flow.proofs.bits.skip.Given as goal

abbrev pub invariant-loop-i : goal.invariant-loop-i
invariant-loop-i l = AreBefore l.chunks l.i l.at
