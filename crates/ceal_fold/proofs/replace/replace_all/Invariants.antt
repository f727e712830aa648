use Rattle.std.proofs.Common.{◌≡◌, ◌+◌, ◌++◌, length}
use Rattle.ceal_fold.specs.Folding.{at_root, folded_commands}
use Rattle.ceal_fold.specs.States.{copies_at, AllUntil}
use Rattle.ceal_fold.proofs.replace.replace_all.Given as goal

abbrev pub invariant-loop-command : goal.invariant-loop-command
invariant-loop-command l = record {
  whole : (l.done.items ++ folded_commands l.structs (copies_at l.states.items) l.index l.rest) ≡ folded_commands l.structs at_root 0 l.body;
  long : length l.states.items ≡ length l.body;
  left : l.index + length l.rest ≡ length l.body;
  times : AllUntil l.index l.states.items;
}

abbrev pub decreases-loop-command : goal.decreases-loop-command
decreases-loop-command l = length l.rest
