use Rattle.std.proofs.Common.{◌≡◌, ◌∙◌, sym, length, get_or, arith}
use Rattle.std.proofs.lemmas.Option.{slice_get-get_or}
use Rattle.ceal_flow.proofs.BitFacts.{below-all, below-first, below-next}
use Rattle.ceal_flow.proofs.ChunkFacts.{chunk-small}
use Rattle.ceal_flow.proofs.bits.numbers.Goals as goal

pub loop-chunk-init : goal.loop-chunk-init
loop-chunk-init c = λ to b n. c.new-numbers.ensures.items ∙ sym (below-first c.args.chunks.now to c.requires.ordered n)

pub push_bits-requires : goal.push_bits-requires
push_bits-requires c =
    let cs = c.args.chunks.now in
    let i = c.loop-chunk.chunk-index in
    let there = slice_get-get_or cs i (record { at = 0; bits = 0 }) (omega (arith, c.loop-chunk-test.true)) in
    record { small = chunk-small 0 cs i (get_or cs i (record { at = 0; bits = 0 })) c.requires.ordered there }

pub loop-chunk-preserved : goal.loop-chunk-preserved
loop-chunk-preserved c = λ to b n.
    let cs = c.args.chunks.now in
    let i = c.loop-chunk.chunk-index in
    let there = slice_get-get_or cs i (record { at = 0; bits = 0 }) (omega (arith, c.loop-chunk-test.true)) in
    c.in_ok-push_bits.ensures.value
    ∙ below-next cs i (get_or cs i (record { at = 0; bits = 0 })) c.requires.ordered there c.loop-chunk.numbers.items c.loop-chunk.invariant to b n

pub returns : goal.returns
returns c =
    let all : c.loop-chunk.chunk-index ≡ length c.args.chunks.now = omega (arith, c.loop-chunk-test.false, c.loop-chunk.auto) in
    record { value = below-all c.args.chunks.now c.loop-chunk.chunk-index c.requires.ordered c.loop-chunk.numbers.items all c.loop-chunk.invariant }
