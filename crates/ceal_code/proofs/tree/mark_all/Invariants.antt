use Rattle.std.proofs.Common.{◌≡◌, ◌+◌, length}
use Rattle.ceal_code.specs.Valid.{reached, all_followers}
use Rattle.ceal_code.proofs.tree.mark_all.Given as goal

abbrev pub invariant-loop-command : goal.invariant-loop-command
invariant-loop-command l = record {
  at : l.index + length l.rest ≡ length l.body;
  same : reached l.marks.items (all_followers l.rest l.index) ≡ reached l.initial.marks.items (all_followers l.body 0);
}

abbrev pub decreases-loop-command : goal.decreases-loop-command
decreases-loop-command l = length l.rest
