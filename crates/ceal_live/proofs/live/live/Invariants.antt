use Rattle.ceal_live.specs.Rounds.{Underway, room}
use Rattle.ceal_live.proofs.live.live.Given as goal

abbrev pub invariant-loop-sets : goal.invariant-loop-sets
invariant-loop-sets l = Underway l.blocks l.sets.items

abbrev pub decreases-loop-sets : goal.decreases-loop-sets
decreases-loop-sets l = room l.sets.items
