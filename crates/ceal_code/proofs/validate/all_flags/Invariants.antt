use Rattle.std.proofs.Common.{◌≡◌, true, replicate}
use Rattle.ceal_code.proofs.validate.all_flags.Given as goal

abbrev pub invariant-loop-i : goal.invariant-loop-i
invariant-loop-i l = l.flags.items ≡ replicate l.i true
