use Rattle.std.proofs.Common.{◌≡◌, ◌++◌, ◌-◌, Some, take, drop, replicate}
use Rattle.ceal_words.proofs.chunk.clear.Given as goal

abbrev pub invariant-loop-index : goal.invariant-loop-index
invariant-loop-index l = (l.block.at ≡ l.initial.block.at) × (l.block.words ≡ take l.from l.initial.block.words ++ replicate (l.index - l.from) (Some 0) ++ drop l.index l.initial.block.words)
