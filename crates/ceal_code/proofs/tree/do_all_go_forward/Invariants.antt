use Rattle.std.proofs.Common.{◌≡◌, ◌+◌, length}
use Rattle.ceal_code.specs.Valid.{all_forward}
use Rattle.ceal_code.proofs.tree.do_all_go_forward.Given as goal

abbrev pub invariant-loop-command : goal.invariant-loop-command
invariant-loop-command l = record {
  at : l.index + length l.rest ≡ length l.body;
  same : all_forward l.rest l.index ≡ all_forward l.body 0;
}

abbrev pub decreases-loop-command : goal.decreases-loop-command
decreases-loop-command l = length l.rest
