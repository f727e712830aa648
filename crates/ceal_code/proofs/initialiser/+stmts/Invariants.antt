use Rattle.std.proofs.Common.{◌≡◌, true, take}
use Rattle.ceal_code.specs.Valid.{stmts_ok}
use Rattle.ceal_code.proofs.initialiser.+stmts.Given as goal

abbrev pub invariant-are_stmts_ok-loop-stmt : goal.invariant-are_stmts_ok-loop-stmt
invariant-are_stmts_ok-loop-stmt l = stmts_ok l.structs l.kinds l.known l.s (take l.stmt-index l.stmts) ≡ true
