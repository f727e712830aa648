use Rattle.std.proofs.Common.{◌≤◌, ◌+◌, ◌-◌}
use Rattle.std.specs.Vec.{vec_len, vec_capacity}
use Rattle.ceal_order.specs.Links.{Grown}
use Rattle.ceal_order.proofs.link.add_spares.Given as goal

-- this number have been added, and there is room for the others
abbrev pub invariant-loop-added : goal.invariant-loop-added
invariant-loop-added l = record {
  grown : Grown l.fn.links.items l.links.items l.fn.free l.first l.added;
  room : vec_len l.links + (l.more - l.added) ≤ vec_capacity l.links;
}
