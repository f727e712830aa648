use Rattle.std.proofs.Common.{take}
use Rattle.ceal_types.specs.Numbers.{function_numbered, IsNumbering}
use Rattle.ceal_types.proofs.numbers.function_numbers.Given as goal

abbrev pub invariant-loop-i : goal.invariant-loop-i
invariant-loop-i l = IsNumbering l.table (function_numbered (take l.i l.functions))
