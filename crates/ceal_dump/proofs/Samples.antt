-- Computed samples of the definitions.
use Rattle.std.proofs.Common.{◌≡◌, List, [], ◌∷◌, refl}
use Rattle.std.specs.Prelude.{pos, codes}
use Rattle.std.specs.Fmt.{digits}
use Rattle.ceal_base.specs.Block.{Block}
use Rattle.ceal_base.specs.declared.forest.Item.TheVariants.{Step, Write, Read, End}
use Rattle.ceal_base.specs.declared.kind.Shape.TheVariants.{Struct, ModInt}
use Rattle.ceal_base.specs.declared.word.BlockId.TheVariants.{Input, Core}
use Rattle.ceal_base.specs.declared.word.Place.{Place}
use Rattle.ceal_base.specs.declared.word.Word.TheVariants.{Num, Null, Block as BlockWord, At}
use Rattle.ceal_dump.specs.DumpText.{words_text, block_lines, item_lines}
use Rattle.ceal_dump.specs.Reading.{number_from, number_at, small_at, int_at, block_at, pointer_at, word_at, words_from, words_at, shape_at, line_at, many_from, blocks_from}

-- a modifiable with 4 in it, and a block of the struct 1
abbrev two_blocks : List Block
two_blocks =
    record { shape = ModInt; words = Num (pos 4) ∷ [] }
    ∷ record { shape = Struct 1; words = Null ∷ BlockWord (Core 2) ∷ [] } ∷ []

-- the place of the modifiable of an input
abbrev place : Place
place = record { block = Input 1; field = 0 }

text_of_blocks : block_lines two_blocks ≡ codes "i 4\ns1 null c2\n"
unfolding block_lines words_text digits
text_of_blocks = refl

read_of_blocks : blocks_from 2 (codes "i 4\ns1 null c2\nend\n") ≡ (two_blocks, codes "end\n")
unfolding many_from line_at shape_at words_at words_from word_at int_at pointer_at block_at small_at number_at number_from
read_of_blocks = refl

-- where the bytes end there is no block more
read_of_fewer : blocks_from 2 (codes "i 4\n") ≡ (record { shape = ModInt; words = Num (pos 4) ∷ [] } ∷ [], [])
unfolding many_from line_at shape_at words_at words_from word_at int_at pointer_at block_at small_at number_at number_from
read_of_fewer = refl

text_of_items : item_lines (Step ∷ Read place (Num (pos 4)) (record { 0 = 1 }) 2 (At place ∷ []) ∷ Write place (Num (pos 5)) ∷ End ∷ [])
    ≡ codes "s\nr i1.0 4 u1 v2 i1.0\nw i1.0 5\ne\n"
unfolding item_lines words_text digits
text_of_items = refl
