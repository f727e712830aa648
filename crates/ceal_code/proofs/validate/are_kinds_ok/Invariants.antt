use Rattle.std.proofs.Common.{◌≡◌, length}
use Rattle.ceal_code.specs.Valid.{kinds_ok}
use Rattle.ceal_code.proofs.validate.are_kinds_ok.Given as goal

abbrev pub invariant-loop-kind : goal.invariant-loop-kind
invariant-loop-kind l = kinds_ok l.structs l.kinds ≡ kinds_ok l.structs l.fn.kinds

abbrev pub decreases-loop-kind : goal.decreases-loop-kind
decreases-loop-kind l = length l.kinds
