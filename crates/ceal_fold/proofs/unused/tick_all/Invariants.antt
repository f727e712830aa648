use Rattle.std.proofs.Common.{length}
use Rattle.ceal_fold.proofs.UnusedSteps.{Underway}
use Rattle.ceal_fold.proofs.unused.tick_all.Given as goal

abbrev pub invariant-loop-command : goal.invariant-loop-command
invariant-loop-command l = Underway l.fn.body.items l.left.items l.done.items l.sets.items

abbrev pub decreases-loop-command : goal.decreases-loop-command
decreases-loop-command l = length l.left.items
