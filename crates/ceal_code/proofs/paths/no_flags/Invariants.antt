use Rattle.std.proofs.Common.{◌≡◌, false, replicate}
use Rattle.ceal_code.proofs.paths.no_flags.Given as goal

abbrev pub invariant-loop-i : goal.invariant-loop-i
invariant-loop-i l = l.flags.items ≡ replicate l.i false
