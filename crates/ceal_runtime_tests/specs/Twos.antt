-- Who tells the writes of the tests: each is one of 2.
use Rattle.std.specs.Prelude.{ℕ, pos, Option, Some}
use Rattle.ceal_base.specs.declared.word.Word.{Word}
use Rattle.ceal_base.specs.declared.word.Word.TheVariants.{Num}

abbrev pub twos : ℕ → Option Word
twos s = Some (Num (pos 2))
