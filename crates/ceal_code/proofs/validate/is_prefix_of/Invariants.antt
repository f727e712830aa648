use Rattle.std.proofs.Common.{◌≡◌, length}
use Rattle.ceal_code.specs.Valid.{is_prefix}
use Rattle.ceal_code.proofs.validate.is_prefix_of.Given as goal

abbrev pub invariant-loop-p : goal.invariant-loop-p
invariant-loop-p l = is_prefix l.params l.kinds ≡ is_prefix l.fn.params l.fn.kinds

abbrev pub decreases-loop-p : goal.decreases-loop-p
decreases-loop-p l = length l.params
