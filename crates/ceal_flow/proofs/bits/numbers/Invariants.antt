use Rattle.std.proofs.Common.{◌≡◌, ◌*◌, ℕ}
use Rattle.ceal_flow.specs.Bits.{members_below, AreBefore, IsNotBefore}
use Rattle.ceal_flow.proofs.bits.numbers.Given as goal

abbrev pub invariant-loop-chunk : goal.invariant-loop-chunk
invariant-loop-chunk l =
    (at : ℕ) → AreBefore l.chunks l.chunk-index at → IsNotBefore l.chunks l.chunk-index at → l.numbers.items ≡ members_below l.chunks (at * 64)
