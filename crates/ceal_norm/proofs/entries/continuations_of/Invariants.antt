use Rattle.std.proofs.Common.{◌≡◌, ◌++◌, length}
use Rattle.ceal_norm.specs.Entries.{all_continuations}
use Rattle.ceal_norm.proofs.entries.continuations_of.Given as goal

abbrev pub invariant-loop-block : goal.invariant-loop-block
invariant-loop-block l = l.out.items ++ all_continuations l.blocks ≡ all_continuations l.fn.blocks

abbrev pub decreases-loop-block : goal.decreases-loop-block
decreases-loop-block l = length l.blocks
