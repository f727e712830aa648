use Rattle.std.proofs.Common.{◌≡◌, ◌≤◌, ◌+◌, ◌-◌, ◌++◌, ◌∙◌, sym, suc, Option, Some, List, ℕ, take, drop, replicate, set, ap, arith}
use Rattle.ceal_words.proofs.ChunkLemmas.{cleared_next}
use Rattle.ceal_words.proofs.chunk.clear.Goals as goal

pub loop-index-preserved : goal.loop-index-preserved
loop-index-preserved c =
    let inv = c.loop-index.invariant in let i = c.loop-index.index in let from = c.args.from in
    let cells = c.args.block.now.words in
    let later : from ≤ i = omega (arith, c.loop-index.auto.index) in
    let n : i + 1 - from ≡ suc (i - from) = omega (arith, later) in
    let m : i + 1 ≡ suc i = omega arith in (
      c.write.ensures.1 ∙ inv.0,
      c.write.ensures.0
          ∙ (ap (λ (cs : List (Option ℕ)). set cs i (Some 0)) inv.1
          ∙ (cleared_next cells from (i - from) i (omega (arith, later)) (omega (arith, c.requires.within, c.loop-index-test.true))
          ∙ (ap (λ j. take from cells ++ replicate j (Some 0) ++ drop (suc i) cells) (sym n)
          ∙ ap (λ j. take from cells ++ replicate (i + 1 - from) (Some 0) ++ drop j cells) (sym m)))),
    )
