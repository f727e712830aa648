use Rattle.std.proofs.Common.{◌≡◌, ◌+◌, ◌<◌, true}
use Rattle.ceal_order.specs.Stamps.{is_in, place}
use Rattle.ceal_order.specs.Links.{stamps_of}
use Rattle.ceal_order.specs.Runs.{Spread}
use Rattle.ceal_order.proofs.labels.spread.Given as goal

-- this number of links have their labels, and the next one is at hand
abbrev pub invariant-loop-place : goal.invariant-loop-place
invariant-loop-place l = record {
  done : Spread l.fn.links l.links l.first l.place l.low l.gap;
  here : l.place < l.count → (is_in l.at (stamps_of l.fn.links) ≡ true) × (place l.at (stamps_of l.fn.links) ≡ place l.first (stamps_of l.fn.links) + l.place);
}
