use Rattle.std.proofs.Common.{◌≡◌, ◌++◌}
use Rattle.ceal_flow.specs.Bits.{inside}
use Rattle.ceal_flow.proofs.bits.push_bits.Given as goal

abbrev pub invariant-loop-j : goal.invariant-loop-j
invariant-loop-j l = l.numbers.items ≡ l.initial.numbers.items ++ inside l.chunk l.j
