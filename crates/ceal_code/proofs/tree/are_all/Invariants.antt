use Rattle.std.proofs.Common.{◌≡◌, length}
use Rattle.ceal_code.specs.Valid.{all_true}
use Rattle.ceal_code.proofs.tree.are_all.Given as goal

abbrev pub invariant-loop-flag : goal.invariant-loop-flag
invariant-loop-flag l = all_true l.flags ≡ all_true l.fn.flags

abbrev pub decreases-loop-flag : goal.decreases-loop-flag
decreases-loop-flag l = length l.flags
