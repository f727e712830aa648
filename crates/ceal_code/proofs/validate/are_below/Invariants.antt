use Rattle.std.proofs.Common.{◌≡◌, length}
use Rattle.ceal_code.specs.Valid.{below}
use Rattle.ceal_code.proofs.validate.are_below.Given as goal

abbrev pub invariant-loop-p : goal.invariant-loop-p
invariant-loop-p l = below l.n l.params ≡ below l.n l.fn.params

abbrev pub decreases-loop-p : goal.decreases-loop-p
decreases-loop-p l = length l.params
