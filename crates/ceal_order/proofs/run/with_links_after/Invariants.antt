use Rattle.std.proofs.Common.{◌-◌, length}
use Rattle.ceal_order.specs.Stamps.{place}
use Rattle.ceal_order.specs.Links.{stamps_of}
use Rattle.ceal_order.specs.Runs.{IsRun}
use Rattle.ceal_order.proofs.run.with_links_after.Given as goal

-- so far it is a run
abbrev pub invariant-loop-after : goal.invariant-loop-after
invariant-loop-after l = IsRun l.links l.at l.run.first l.last l.count

abbrev pub decreases-loop-after : goal.decreases-loop-after
decreases-loop-after l = length (stamps_of l.links) - place l.last (stamps_of l.links)
