use Rattle.std.proofs.Common.{◌≡◌}
use Rattle.ceal_heap.specs.Heap.{ReleasesAlike, live_count, revoked_count}
use Rattle.ceal_heap.proofs.heap.Heap.release_revoked.Given as goal

abbrev pub invariant-loop : goal.invariant-loop
invariant-loop l = record {
  alike : ReleasesAlike l.fn.self l.self;
  count : live_count l.self ≡ live_count l.fn.self;
}

abbrev pub decreases-loop : goal.decreases-loop
decreases-loop l = revoked_count l.self
