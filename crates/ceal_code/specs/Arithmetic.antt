-- Operators that look only at numbers.
use Rattle.std.specs.Prelude.{◌≡◌}
use Rattle.ceal_base.specs.Operators.{number_of, numbers_value, binary_value}
use Rattle.ceal_base.specs.declared.operators.Binary.{Binary}
use Rattle.ceal_base.specs.declared.word.Word.{Word}
use Rattle.ceal_base.specs.declared.word.Word.TheVariants.{Num}

-- the operator gives a number, which the numbers of its words determine
abbrev pub IsArithmetic : Binary → Type 0
IsArithmetic op = (a b : Word) → binary_value op a b ≡ Num (number_of (numbers_value op (number_of a) (number_of b)))
