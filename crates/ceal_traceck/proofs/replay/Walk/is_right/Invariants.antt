use Rattle.std.proofs.Common.{length}
use Rattle.std.specs.Prelude.{◌↔◌}
use Rattle.ceal_traceck.specs.Walk.{IsRight}
use Rattle.ceal_traceck.proofs.replay.Walk.is_right.Given as goal

-- what is left is right exactly when all is
abbrev pub invariant-loop-walk : goal.invariant-loop-walk
invariant-loop-walk l = IsRight l.fn.self ↔ IsRight l.walk

abbrev pub decreases-loop-walk : goal.decreases-loop-walk
decreases-loop-walk l = length l.walk.items.now
