use Rattle.std.proofs.Common.{◌≡◌, ◌++◌, Some, map, take, drop}
use Rattle.ceal_words.proofs.chunk.copy.Given as goal

abbrev pub invariant-loop-at : goal.invariant-loop-at
invariant-loop-at l = (l.block.at ≡ l.initial.block.at) × (l.block.words ≡ map Some (take l.at l.chunk) ++ drop l.at l.initial.block.words)
