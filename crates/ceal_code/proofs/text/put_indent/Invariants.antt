use Rattle.std.proofs.Common.{◌≡◌, ◌++◌}
use Rattle.ceal_code.specs.Listing.{indent}
use Rattle.ceal_code.proofs.text.put_indent.Given as goal

abbrev pub invariant-loop-i : goal.invariant-loop-i
invariant-loop-i l = l.out ≡ l.initial.out ++ indent l.i
