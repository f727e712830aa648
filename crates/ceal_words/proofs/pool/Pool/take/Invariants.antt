use Rattle.std.proofs.Common.{◌≡◌, ℕ, ◌<◌, List, length, drop, replicate, ◌++◌}
use Rattle.ceal_words.specs.SizeClass.{taken}
use Rattle.ceal_words.proofs.pool.Pool.take.Given as goal

abbrev pub invariant-loop-index : goal.invariant-loop-index
invariant-loop-index l = (words : List ℕ) × (length words ≡ l.len) × (l.at < length l.fn.self.pieces) × (l.self ≡ taken l.at (replicate l.index 0 ++ drop l.index words) l.fn.self)
