use Rattle.std.proofs.Common.{◌≡◌, ◌++◌, length}
use Rattle.ceal_code.specs.Step.{chosen}
use Rattle.ceal_code.proofs.binding.choose.Given as goal

abbrev pub invariant-loop-p : goal.invariant-loop-p
invariant-loop-p l = l.words.items ++ chosen l.params l.args ≡ chosen l.fn.params l.args

abbrev pub decreases-loop-p : goal.decreases-loop-p
decreases-loop-p l = length l.params
