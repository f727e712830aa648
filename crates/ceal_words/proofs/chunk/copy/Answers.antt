use Rattle.std.proofs.Common.{◌≡◌, ◌+◌, ◌++◌, ◌∙◌, suc, Option, Some, List, ℕ, map, take, drop, set, ap, arith}
use Rattle.ceal_words.proofs.ChunkLemmas.{copied_next}
use Rattle.ceal_words.proofs.chunk.copy.Goals as goal

pub loop-at-preserved : goal.loop-at-preserved
loop-at-preserved c =
    let inv = c.loop-at.invariant in let at = c.loop-at.at in
    let more : suc at ≡ at + 1 = omega arith in (
      c.write.ensures.1 ∙ inv.0,
      c.write.ensures.0
          ∙ (ap (λ (cs : List (Option ℕ)). set cs at (Some c.get.result)) inv.1
          ∙ (ap (λ (x : ℕ). set (map Some (take at c.args.chunk.now) ++ drop at c.args.block.now.words) at (Some x)) c.get.ensures
          ∙ (copied_next c.args.chunk.now c.args.block.now.words at (omega (arith, c.loop-at-test.true, c.len-count.ensures)) (omega (arith, c.requires, c.loop-at-test.true, c.len-count.ensures))
          ∙ ap (λ (n : ℕ). map Some (take n c.args.chunk.now) ++ drop n c.args.block.now.words) more))),
    )
