use Rattle.std.proofs.Common.{◌≡◌, ◌++◌, length}
use Rattle.ceal_flow.specs.Laws.{firsts}
use Rattle.ceal_norm.proofs.entries.first_blocks.Given as goal

abbrev pub invariant-loop-function : goal.invariant-loop-function
invariant-loop-function l = l.out.items ++ firsts l.functions ≡ firsts l.fn.functions

abbrev pub decreases-loop-function : goal.decreases-loop-function
decreases-loop-function l = length l.functions
