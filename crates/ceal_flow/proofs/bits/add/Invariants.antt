use Rattle.std.proofs.Common.{◌≡◌, ◌≢◌, ℕ, ◌<◌, ◌≤◌, true, false, Some, length, take}
use Rattle.std.specs.Int.{bit_at}
use Rattle.std.specs.Prelude.{slice_get}
use Rattle.ceal_flow.specs.declared.bits.Chunk.{Chunk}
use Rattle.ceal_flow.specs.Bits.{bits_of, AreOrdered, AreBefore}
use Rattle.ceal_flow.proofs.BitFacts.{JoinedAt}
use Rattle.ceal_flow.proofs.bits.add.Given as goal

abbrev pub invariant-loop-other : goal.invariant-loop-other
invariant-loop-other l = record {
  ordered : AreOrdered l.chunks.items;
  within : l.from ≤ length l.chunks.items;
  before : (c : Chunk) → slice_get l.others l.other-index ≡ Some c → AreBefore l.chunks.items l.from c.at;
  joined : (k j : ℕ) → j < 64 → JoinedAt l.chunks.items l.initial.chunks.items (take l.other-index l.others) l.except k j;
  same : l.changed ≡ false → l.chunks.items ≡ l.initial.chunks.items;
  more : l.changed ≡ true → (k j : ℕ) × (j < 64) × (bit_at (bits_of l.initial.chunks.items k) j ≢ bit_at (bits_of l.chunks.items k) j);
}
