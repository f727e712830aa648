use Rattle.std.proofs.Common.{◌≡◌, length}
use Rattle.ceal_code.specs.Valid.{structs_ok}
use Rattle.ceal_code.proofs.validate.are_structs_ok.Given as goal

abbrev pub invariant-loop-info : goal.invariant-loop-info
invariant-loop-info l = structs_ok l.structs l.rest ≡ structs_ok l.structs l.fn.rest

abbrev pub decreases-loop-info : goal.decreases-loop-info
decreases-loop-info l = length l.rest
