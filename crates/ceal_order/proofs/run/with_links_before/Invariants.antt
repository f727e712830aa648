use Rattle.ceal_order.specs.Stamps.{place}
use Rattle.ceal_order.specs.Links.{stamps_of}
use Rattle.ceal_order.specs.Runs.{IsRun}
use Rattle.ceal_order.proofs.run.with_links_before.Given as goal

-- so far it is a run
abbrev pub invariant-loop-before : goal.invariant-loop-before
invariant-loop-before l = IsRun l.links l.at l.first l.run.last l.count

abbrev pub decreases-loop-before : goal.decreases-loop-before
decreases-loop-before l = place l.first (stamps_of l.links)
