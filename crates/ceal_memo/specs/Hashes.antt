-- The hashes of keys: sums of products with the words of a seed (multilinear hashing: Carter and Wegman, "Universal
-- classes of hash functions", 1979; Lemire and Kaser, "Strongly universal string hashing is fast", 2014).
use Rattle.std.specs.Prelude.{ℕ, ◌+◌, ◌*◌, ◌/◌, ◌%◌, ◌^◌, List, [], ◌∷◌, length, Option, None, Some, slice_get}
use Rattle.std.specs.Prelude.{unwrap_or}
use mir.Syntax.{w64}
use mir.Val.{of_z as cast_unsigned}
use Rattle.ceal_base.specs.Hashing.{mixed, place_number}
use Rattle.ceal_base.specs.declared.forest.Key.{Key}
use Rattle.ceal_base.specs.declared.forest.Key.TheVariants.{Init, ModInt, ModPtr}
use Rattle.ceal_base.specs.declared.word.Word.{Word}
use Rattle.ceal_base.specs.declared.word.Word.TheVariants.{Num, Null, Block, At}
use Rattle.ceal_memo.specs.declared.digest.Digest.{Digest}
use Rattle.ceal_memo.specs.Keys.{EntryKey, OfRead, OfAlloc}

-- a word as one number, which no other word has
abbrev pub word_number : Word → ℕ
word_number (Num n) = cast_unsigned w64 n
word_number Null = 2 ^ 64
word_number (Block b) = 2 * 2 ^ 64 + place_number (record { block = b; field = 0 })
word_number (At p) = 3 * 2 ^ 64 + place_number p

-- a word of a seed
abbrev pub seed_word : List ℕ → ℕ → ℕ
seed_word seed at = unwrap_or (slice_get seed at) 0

-- one more number, with the word of the seed that is next; where none is left, those of the seed begin again after what
-- is there
abbrev pub with_number : List ℕ → Digest → ℕ → Digest
with_number seed d number = by (slice_get seed d.at)
  where
    by : Option ℕ → Digest
    by (Some word) = record { sum = (d.sum + word * number) % 2 ^ 64; at = d.at + 1 }
    by None = record {
      sum = (seed_word seed 0 * (mixed 0 d.sum / 2 ^ 32) + seed_word seed 1 * number) % 2 ^ 64;
      at = 2;
    }

-- one more number in two parts, the lower 32 bits and the others
abbrev pub with_wide : List ℕ → Digest → ℕ → Digest
with_wide seed d number = with_number seed (with_number seed d (number % 4294967296)) (number / 4294967296)

-- words after a digest
unfoldable pub with_words : List ℕ → Digest → List Word → Digest
with_words seed d [] = d
with_words seed d (w ∷ ws) = with_words seed (with_wide seed d (word_number w)) ws

-- a digest of no numbers
abbrev pub empty : Digest
empty = record { sum = 0; at = 0 }

-- the digest of an allocation's key
unfoldable pub alloc_digest : List ℕ → Key → Digest
alloc_digest seed (Init function args) =
    with_words seed (with_number seed (with_wide seed empty (length args * 4 + 1)) function) args
alloc_digest seed ModInt = with_number seed empty 2
alloc_digest seed (ModPtr pointed) = with_number seed (with_number seed empty 3) pointed

-- the digest of a key
unfoldable pub key_digest : List ℕ → EntryKey → Digest
key_digest seed (OfRead key) =
    with_words seed (with_wide seed
    (with_wide seed (with_wide seed empty (length key.args * 4)) (place_number key.place))
    (key.unit.0 * 4294967296 + key.var)) key.args
key_digest seed (OfAlloc key) = alloc_digest seed key

-- the word of a seed that is multiplied by no part of a key of up to 29 words, made odd
abbrev pub odd_word : List ℕ → ℕ
odd_word seed = seed_word seed 64 / 2 * 2 + 1

-- what the hash is of the sum of a digest: the sum is scrambled, multiplied by the odd word of the seed, and of that
-- the upper 32 bits are kept (multiply-shift: Dietzfelbinger and others, "A reliable randomized algorithm for the
-- closest-pair problem", 1997)
abbrev pub upper_bits : List ℕ → ℕ → ℕ
upper_bits seed sum = (odd_word seed * mixed 0 sum) % 2 ^ 64 / 2 ^ 32

-- the hash of a key
unfoldable pub hash_of : List ℕ → EntryKey → ℕ
hash_of seed key = upper_bits seed (key_digest seed key).sum
