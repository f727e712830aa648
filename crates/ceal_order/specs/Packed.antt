-- Words and numbers in parts of 32 bits.
use Rattle.std.specs.Prelude.{ℕ, ◌+◌, ◌*◌, ◌^◌}
use Rattle.std.specs.Int.{w64, cast_signed}
use Rattle.ceal_base.specs.declared.word.BlockId.TheVariants as id
use Rattle.ceal_base.specs.declared.word.Word.{Word}
use Rattle.ceal_base.specs.declared.word.Word.TheVariants as word
use Rattle.ceal_order.specs.declared.packed.Halves.{Halves}
use Rattle.ceal_order.specs.declared.packed.Packed.{Packed}
use Rattle.ceal_order.specs.declared.packed.Packed.TheVariants as packed

-- the number of two halves
abbrev pub number_of : Halves → ℕ
number_of h = h.low + h.high * 2 ^ 32

-- the word that is packed
abbrev pub word_of : Packed → Word
word_of (packed.Number h) = word.Num (cast_signed w64 (number_of h))
word_of packed.Null = word.Null
word_of (packed.Input n) = word.Block (id.Input n)
word_of (packed.Core n) = word.Block (id.Core n)
word_of (packed.InInput block field) = word.At (record { block = id.Input block; field = field })
word_of (packed.InCore block field) = word.At (record { block = id.Core block; field = field })
