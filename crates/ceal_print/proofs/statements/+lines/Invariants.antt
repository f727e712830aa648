use Rattle.std.proofs.Common.{◌≡◌, ◌++◌, take}
use Rattle.ceal_print.specs.PrintWords.{texts, stmts_kinds}
use Rattle.ceal_print.proofs.statements.+lines.Given as goal

abbrev pub invariant-put_stmts-loop-s : goal.invariant-put_stmts-loop-s
invariant-put_stmts-loop-s l = l.out ≡ l.initial.out ++ texts (stmts_kinds (take l.s-index l.stmts))
