use Rattle.std.proofs.Common.{◌≡◌, take}
use Rattle.ceal_queue.proofs.stamps.fill.Given as goal

abbrev pub invariant-loop-at : goal.invariant-loop-at
invariant-loop-at l = l.sequence ≡ take l.at l.stamps
