use Rattle.std.proofs.Common.{◌-◌}
use Rattle.ceal_order.specs.Runs.{Fills}
use Rattle.ceal_order.proofs.run.sparse_run.Given as goal

-- the run is that of a range
abbrev pub invariant-loop-bits : goal.invariant-loop-bits
invariant-loop-bits l = Fills l.links l.at l.run

abbrev pub decreases-loop-bits : goal.decreases-loop-bits
decreases-loop-bits l = 62 - l.run.bits
