use Rattle.std.proofs.Common.{◌≡◌, length}
use Rattle.ceal_theory.specs.Levels.{skipped}
use Rattle.ceal_adjust.proofs.turn.after_end.Given as goal

abbrev pub invariant-loop-levels : goal.invariant-loop-levels
invariant-loop-levels l = skipped l.levels l.items ≡ skipped 1 l.fn.items

abbrev pub decreases-loop-levels : goal.decreases-loop-levels
decreases-loop-levels l = length l.items
