use Rattle.std.proofs.Common.{◌≢◌, ℕ, ◌<◌, get_or}
use Rattle.ceal_order.specs.Rising.{numbers}
use Rattle.ceal_order.proofs.rising.index_of.Given as goal

abbrev pub invariant-loop-at : goal.invariant-loop-at
invariant-loop-at l = (k : ℕ) → k < l.at → get_or (numbers l.stamps) k 0 ≢ l.stamp.0
