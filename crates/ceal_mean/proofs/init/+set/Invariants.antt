use Rattle.std.proofs.Common.{◌≡◌, take}
use Rattle.ceal_mean.specs.Init.{set_by_all}
use Rattle.ceal_mean.proofs.init.+set.Given as goal

abbrev pub invariant-set_fields-loop-s : goal.invariant-set_fields-loop-s
invariant-set_fields-loop-s l = l.words.items ≡ set_by_all l.env l.memory l.fn.words.items (take l.s-index l.stmts)
