use Rattle.std.proofs.Common.{◌≡◌, ◌<◌, ℕ, length, drop, slice_get}
use Rattle.ceal_code.specs.PlainWords.{block_word}
use Rattle.ceal_code.specs.Tables.{memory_in}
use Rattle.ceal_traceck.proofs.memory.has_words.Given as goal

-- the words so far are those of the block
abbrev pub invariant-loop-word : goal.invariant-loop-word
invariant-loop-word l = record {
  rest : l.rest ≡ drop l.field l.words;
  same : (f : ℕ) → f < l.field → block_word (memory_in l.memory l.id) f ≡ slice_get l.words f;
}

abbrev pub decreases-loop-word : goal.decreases-loop-word
decreases-loop-word l = length l.rest
