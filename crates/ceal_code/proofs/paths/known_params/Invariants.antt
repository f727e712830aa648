use Rattle.std.proofs.Common.{◌≡◌, false, length, replicate}
use Rattle.ceal_code.specs.Valid.{with_params}
use Rattle.ceal_code.proofs.paths.known_params.Given as goal

abbrev pub invariant-loop-p : goal.invariant-loop-p
invariant-loop-p l = with_params l.known.items l.params ≡ with_params (replicate l.n false) l.fn.params

abbrev pub decreases-loop-p : goal.decreases-loop-p
decreases-loop-p l = length l.params
