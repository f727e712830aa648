use Rattle.std.proofs.Common.{◌≡◌, ◌∙◌, sym, Option, Some, None, ℕ, List, ◌<◌}
use Rattle.std.specs.Prelude.{IfSome, IfNone, slice_get, unwrap_or}
use Rattle.ceal_flow.specs.declared.bits.Chunk.{Chunk}
use Rattle.ceal_flow.specs.Bits.{bits_of, AreOrdered, AreBefore}
use Rattle.ceal_flow.proofs.ChunkFacts.{bits-here, bits-none}
use Rattle.ceal_flow.proofs.bits.bits_at.Goals as goal

bits-found : (cs : List Chunk) (i at : ℕ) (found : Option ℕ) → AreOrdered cs → AreBefore cs i at
    → IfSome found (λ bits. slice_get cs i ≡ Some (record { at = at; bits = bits }))
    → IfNone found ((c : Chunk) → slice_get cs i ≡ Some c → at < c.at) → unwrap_or found 0 ≡ bits_of cs at
bits-found cs i at (Some bits) o b some none = sym (bits-here 0 cs i (record { at = at; bits = bits }) o some)
bits-found cs i at None o b some none = sym (bits-none 0 cs i at o b none)

pub returns : goal.returns
returns c = record {
  value = c.unwrap_or.ensures
      ∙ bits-found c.args.chunks.now c.args.index c.args.at c.bits_there.result c.requires.ordered c.requires.before
      c.bits_there.ensures.some c.bits_there.ensures.none;
}
