use Rattle.std.proofs.Common.{◌≡◌, ◌++◌, take}
use Rattle.ceal_code.specs.Listing.{stmts_text}
use Rattle.ceal_code.proofs.listing.+lines.Given as goal

abbrev pub invariant-put_stmts-loop-stmt : goal.invariant-put_stmts-loop-stmt
invariant-put_stmts-loop-stmt l = l.out ≡ l.initial.out ++ stmts_text l.of.structs.now l.of.shape l.depth (take l.stmt-index l.stmts)
