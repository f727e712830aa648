use Rattle.std.proofs.Common.{◌≡◌, drop}
use Rattle.ceal_base.specs.Hashing.{digest_after}
use Rattle.ceal_base.proofs.words.digest.Given as goal

-- the words that are left lead from the digest so far to that of all
abbrev pub invariant-loop-word : goal.invariant-loop-word
invariant-loop-word l = record {
  same : digest_after l.digest (drop l.word-index l.words) ≡ digest_after 0 l.words;
}
