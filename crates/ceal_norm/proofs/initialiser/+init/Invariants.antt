use Rattle.std.proofs.Common.{◌≡◌, take}
use Rattle.ceal_norm.specs.Expressions.{all_init_code}
use Rattle.ceal_norm.proofs.initialiser.+init.Given as goal

abbrev pub invariant-inits_of-loop-s : goal.invariant-inits_of-loop-s
invariant-inits_of-loop-s l = l.out.items ≡ all_init_code (take l.s-index l.stmts)
