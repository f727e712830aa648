use Rattle.std.proofs.Common.{◌≡◌, ◌++◌, ◌-◌, ◌≤◌, length, replicate, take}
use Rattle.ceal_heap.proofs.parts.without_last.Given as goal

abbrev pub invariant-loop-word : goal.invariant-loop-word
invariant-loop-word l = record {
  few : l.count ≤ length l.words;
  same : take l.count l.words ++ replicate (length l.words - l.count) l.word ≡ l.words;
}

abbrev pub decreases-loop-word : goal.decreases-loop-word
decreases-loop-word l = l.count
