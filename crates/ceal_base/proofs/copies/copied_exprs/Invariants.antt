use Rattle.std.proofs.Common.{◌≡◌, take}
use Rattle.ceal_base.proofs.copies.copied_exprs.Given as goal

abbrev pub invariant-loop-e : goal.invariant-loop-e
invariant-loop-e l = l.copies.items ≡ take l.e-index l.es
