use Rattle.std.proofs.Common.{◌≡◌, ◌<◌, ℕ, Some, length}
use Rattle.std.specs.List.{slice_get}
use Rattle.ceal_memo.specs.Seeds.{word_of}
use Rattle.ceal_memo.proofs.seed.Seed.of.Given as goal

-- the words so far are those of the two numbers
abbrev pub invariant-loop-at : goal.invariant-loop-at
invariant-loop-at l = record {
  all : length l.words ≡ 65;
  words : (k : ℕ) → k < l.at → slice_get l.words k ≡ Some (word_of l.fn.first l.fn.second k);
}
