use Rattle.std.proofs.Common.{◌≡◌, ◌-◌, ◌∙◌, ◌++◌, ℕ, List, [], map, take, drop, replicate, Option, Some, None, sym, ap, refl, arith}
use Rattle.ceal_words.specs.Written.{held}
use Rattle.ceal_words.proofs.ChunkLemmas.{held_front, longer_cells, long_zeros, rooms, written_front}
use Rattle.ceal_words.proofs.chunk.Chunk.zeros.Goals as goal

module _ (c : goal.After-clear) where
  abbrev count : ℕ
  count = c.args.count

  cells : c.clear.new.block.words ≡ map Some (replicate (count - 0) 0) ++ replicate (count - count) None
  cells =
      c.clear.ensures.words
      ∙ (ap (λ (cs : List (Option ℕ)). take 0 cs ++ replicate (count - 0) (Some 0) ++ drop count cs) (c.in-Some.ensures.0 ∙ rooms count (count - 0) (omega arith))
      ∙ longer_cells [] 0 count count refl (omega arith) (omega arith))

pub invariant_of-result : goal.invariant_of-result
invariant_of-result c =
    let made = c.in-Some.ensures in (
      written_front c.clear.new.block.words (replicate (count c - 0) 0) (count c) (count c) (cells c) (long_zeros [] 0 (count c) refl (omega arith)) (omega arith)
          (omega (arith, c.if-count-gt-MOST_WORDS.false)),
      made.1 ∙ sym c.clear.ensures.at,
      made.2,
      made.3,
    )

pub returns-in-Some : goal.returns-in-Some
returns-in-Some c =
    let all : count c - 0 ≡ count c = omega arith in
    ap held (cells c) ∙ (held_front (replicate (count c - 0) 0) (count c - count c) ∙ ap (λ (j : ℕ). replicate {A = ℕ} j 0) all)
