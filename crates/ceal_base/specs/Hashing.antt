-- What words feed a hasher: one write, however many they are.
use Rattle.std.specs.Prelude.{ℕ, ◌+◌, ◌*◌, ◌/◌, ◌%◌, ◌^◌, List, [], ◌∷◌, bit_xor}
use mir.Syntax.{w64}
use mir.Val.{of_z as cast_unsigned}
use Rattle.ceal_base.specs.declared.word.BlockId.{BlockId}
use Rattle.ceal_base.specs.declared.word.BlockId.TheVariants.{Input, Core}
use Rattle.ceal_base.specs.declared.word.Place.{Place}
use Rattle.ceal_base.specs.declared.word.Word.{Word}
use Rattle.ceal_base.specs.declared.word.Word.TheVariants.{Num, Null, Block, At}

-- a block's number; those of core blocks begin in the middle, so that they are others than those of inputs
abbrev pub number_of : BlockId → ℕ
number_of (Input n) = n
number_of (Core n) = (n + 2 ^ 31) % 2 ^ 32

-- the numbers of a place's block and field in one
abbrev pub place_number : Place → ℕ
place_number p = number_of p.block * 4294967296 + p.field

-- a word as one number; two words may have the same
abbrev pub word_digest : Word → ℕ
word_digest (Num n) = cast_unsigned w64 n
word_digest Null = 18446744073709551615
word_digest (Block b) = number_of b + 4611686018427387904
word_digest (At p) = place_number p

-- a number whose low bits have a say of its high ones
abbrev pub xor_shifted : ℕ → ℕ → ℕ
xor_shifted number bits = bit_xor number (number / 2 ^ bits)

-- a number scrambled: the last steps of SplitMix64
-- (Steele, Lea and Flood, "Fast splittable pseudorandom number generators", 2014)
abbrev pub scrambled : ℕ → ℕ
scrambled n = xor_shifted
    ((xor_shifted ((xor_shifted n 30 * 13787848793156543929) % 2 ^ 64) 27 * 10723151780598845931) % 2 ^ 64) 31

-- one more number after a digest: what scrambles them is no sum of products,
-- so no numbers are chosen by one that have one digest
abbrev pub mixed : ℕ → ℕ → ℕ
mixed digest number = scrambled ((digest + number) % 2 ^ 64)

-- a digest with words after it
unfoldable pub digest_after : ℕ → List Word → ℕ
digest_after digest [] = digest
digest_after digest (w ∷ ws) = digest_after (mixed digest (word_digest w)) ws
