use Rattle.std.proofs.Common.{◌≡◌, ◌++◌, length}
use Rattle.ceal_norm.specs.Entries.{all_jumps}
use Rattle.ceal_norm.proofs.entries.targets.Given as goal

abbrev pub invariant-loop-block : goal.invariant-loop-block
invariant-loop-block l = l.out.items ++ all_jumps l.blocks ≡ all_jumps l.fn.blocks

abbrev pub decreases-loop-block : goal.decreases-loop-block
decreases-loop-block l = length l.blocks
