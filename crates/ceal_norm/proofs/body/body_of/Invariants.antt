use Rattle.std.proofs.Common.{◌≡◌, ◌-◌, length, reverse}
use Rattle.ceal_norm.specs.Body.{whole_body, AllBelow}
use Rattle.ceal_norm.specs.Units.{tree}
use Rattle.ceal_norm.proofs.body.body_of.Given as goal

abbrev pub invariant-loop-next : goal.invariant-loop-next
invariant-loop-next l = record {
  same : whole_body l.plan l.out.body.items (reverse l.out.pending.items) ≡ tree l.plan (length l.plan.graph.blocks) l.b 0;
  below : AllBelow (length l.plan.graph.blocks) (reverse l.out.pending.items);
}

abbrev pub decreases-loop-next : goal.decreases-loop-next
decreases-loop-next l = length (tree l.plan (length l.plan.graph.blocks) l.b 0) - length l.out.body.items
