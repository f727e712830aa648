use Rattle.std.proofs.Common.{◌≡◌}
use Rattle.ceal_code.specs.Valid.{row_goes_on}
use Rattle.ceal_code.proofs.validate.does_row_go_on.Given as goal

abbrev pub invariant-loop-n : goal.invariant-loop-n
invariant-loop-n l = row_goes_on l.n l.kind l.rest ≡ row_goes_on l.fn.n l.kind l.fn.rest

abbrev pub decreases-loop-n : goal.decreases-loop-n
decreases-loop-n l = l.n
