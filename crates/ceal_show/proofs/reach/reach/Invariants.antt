use Rattle.std.proofs.Common.{◌-◌, ◌^◌}
use Rattle.ceal_show.proofs.Finding.{IsSearching}
use Rattle.ceal_show.proofs.reach.reach.Given as goal

abbrev pub invariant-loop-at : goal.invariant-loop-at
invariant-loop-at g l = IsSearching (g.V.View.memory l.view) l.fn.root l.at l.met

abbrev pub decreases-loop-at : goal.decreases-loop-at
decreases-loop-at g l = 2 ^ 64 - l.at
