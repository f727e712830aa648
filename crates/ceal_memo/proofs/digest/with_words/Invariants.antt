use Rattle.std.proofs.Common.{◌≡◌, drop}
use Rattle.ceal_memo.specs.Hashes.{with_words}
use Rattle.ceal_memo.proofs.digest.with_words.Given as goal

-- the words that are left lead from the digest so far to that of all
abbrev pub invariant-loop-word : goal.invariant-loop-word
invariant-loop-word l = with_words l.seed l.all (drop l.word-index l.words) ≡ with_words l.seed l.fn.digest l.words
