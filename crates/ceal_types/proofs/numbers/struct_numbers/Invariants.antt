use Rattle.std.proofs.Common.{take}
use Rattle.ceal_types.specs.Numbers.{struct_numbered, IsNumbering}
use Rattle.ceal_types.proofs.numbers.struct_numbers.Given as goal

abbrev pub invariant-loop-i : goal.invariant-loop-i
invariant-loop-i l = IsNumbering l.table (struct_numbered (take l.i l.structs))
