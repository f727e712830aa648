use Rattle.std.proofs.Common.{◌≡◌, length}
use Rattle.ceal_code.specs.Valid.{all_fit}
use Rattle.ceal_code.proofs.check.do_all_fit.Given as goal

abbrev pub invariant-loop-kind : goal.invariant-loop-kind
invariant-loop-kind l = all_fit l.structs l.kinds l.known l.asked l.args ≡ all_fit l.structs l.kinds l.known l.fn.asked l.fn.args

abbrev pub decreases-loop-kind : goal.decreases-loop-kind
decreases-loop-kind l = length l.asked
