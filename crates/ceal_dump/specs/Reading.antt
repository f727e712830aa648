-- What is read from bytes that begin with the text of a thing: the thing, and the bytes after it. Of other
-- bytes anything may be read; the reader compares the text of the record that it has read with the bytes.
use Rattle.std.specs.Prelude.{ℕ, zero, suc, ◌+◌, ◌-◌, ◌*◌, ◌^◌, ◌==◌, ◌&&◌, nat_lt, nat_le, ℤ, pos, negsuc, Bool}
use Rattle.std.specs.Prelude.{if◌then◌else◌, List, [], ◌∷◌, length, drop}
use Rattle.ceal_base.specs.Block.{Block, Blocks}
use Rattle.ceal_base.specs.Digits.{is_digit}
use Rattle.ceal_base.specs.declared.forest.Item.{Item}
use Rattle.ceal_base.specs.declared.forest.Item.TheVariants.{Step, Alloc, Write, Read, End}
use Rattle.ceal_base.specs.declared.forest.Key.{Key}
use Rattle.ceal_base.specs.declared.forest.Key.TheVariants.{Init, ModInt as IntKey, ModPtr as PtrKey}
use Rattle.ceal_base.specs.declared.kind.Shape.{Shape}
use Rattle.ceal_base.specs.declared.kind.Shape.TheVariants.{Struct, ModInt, ModPtr}
use Rattle.ceal_base.specs.declared.word.BlockId.{BlockId}
use Rattle.ceal_base.specs.declared.word.BlockId.TheVariants.{Input, Core}
use Rattle.ceal_base.specs.declared.word.Place.{Place}
use Rattle.ceal_base.specs.declared.word.Word.{Word}
use Rattle.ceal_base.specs.declared.word.Word.TheVariants.{Num, Null, Block as BlockWord, At}
use Rattle.ceal_base.specs.declared.recorded.Record.{Record}

-- 0 at the end
abbrev pub first_byte : List ℕ → ℕ
first_byte [] = 0
first_byte (b ∷ bs) = b

-- a number with a digit after it; a number that is too large is not looked at further
abbrev pub with_digit : ℕ → ℕ → ℕ
with_digit n b = if nat_lt n (2 ^ 60) then 10 * n + (b - 48) else n

-- a number with the digits after it, up to a byte that is none
unfoldable pub number_from : ℕ → List ℕ → ℕ × List ℕ
number_from n [] = (n, [])
number_from n (b ∷ bs) = if is_digit b then number_from (with_digit n b) bs else (n, b ∷ bs)

-- the number at the front, and the bytes after it
unfoldable pub number_at : List ℕ → ℕ × List ℕ
number_at bs = number_from 0 bs

-- a number that has room in 32 bits
abbrev pub small : ℕ → ℕ
small n = if nat_lt n (2 ^ 32) then n else 0

-- a number, 0 where it has no room in 32 bits, and the bytes after it
unfoldable pub small_at : List ℕ → ℕ × List ℕ
small_at bs = (small (number_at bs).0, (number_at bs).1)

-- a number of the range of an `int`
abbrev pub positive : ℕ → ℤ
positive n = if nat_lt n (2 ^ 63) then pos n else pos 0

-- the number below 0 with these digits; 0, where it is too large
abbrev pub negative : ℕ → ℤ
negative zero = pos 0
negative (suc n) = if nat_lt n (2 ^ 63) then negsuc n else pos 0

-- a number with its sign, and the bytes after it
unfoldable pub int_at : List ℕ → ℤ × List ℕ
int_at bs =
    if first_byte bs == 45 then (negative (number_at (drop 1 bs)).0, (number_at (drop 1 bs)).1)
    else (positive (number_at bs).0, (number_at bs).1)

-- the block with this letter and number
abbrev pub block_of : ℕ → ℕ → BlockId
block_of b n = if b == 105 then Input n else Core n

-- a block, and the bytes after it
unfoldable pub block_at : List ℕ → BlockId × List ℕ
block_at bs = (block_of (first_byte bs) (small_at (drop 1 bs)).0, (small_at (drop 1 bs)).1)

-- a place, and the bytes after it
unfoldable pub place_at : List ℕ → Place × List ℕ
place_at bs = (
  record { block = (block_at bs).0; field = (small_at (drop 1 (block_at bs).1)).0 },
  (small_at (drop 1 (block_at bs).1)).1,
)

-- a block, or a place
unfoldable pub pointer_at : List ℕ → Word × List ℕ
pointer_at bs =
    if first_byte (block_at bs).1 == 46 then (At (place_at bs).0, (place_at bs).1)
    else (BlockWord (block_at bs).0, (block_at bs).1)

-- whether the byte begins a block or a place
abbrev pub is_pointer : ℕ → Bool
is_pointer b = if b == 105 then b == 105 else b == 99

-- a word, and the bytes after it
unfoldable pub word_at : List ℕ → Word × List ℕ
word_at bs =
    if first_byte bs == 110 then (Null, drop 4 bs)
    else if is_pointer (first_byte bs) then pointer_at bs
    else (Num (int_at bs).0, (int_at bs).1)

-- words with a space before each, at most the given number
unfoldable pub words_from : ℕ → List ℕ → List Word × List ℕ
words_from zero bs = ([], bs)
words_from (suc k) bs =
    if first_byte bs == 32
    then ((word_at (drop 1 bs)).0 ∷ (words_from k (word_at (drop 1 bs)).1).0, (words_from k (word_at (drop 1 bs)).1).1)
    else ([], bs)

-- words with a space before each, and the bytes after them
unfoldable pub words_at : List ℕ → List Word × List ℕ
words_at bs = words_from (length bs) bs

-- a shape, and the bytes after it
unfoldable pub shape_at : List ℕ → Shape × List ℕ
shape_at bs =
    if first_byte bs == 115 then (Struct (small_at (drop 1 bs)).0, (small_at (drop 1 bs)).1)
    else if first_byte bs == 112 then (ModPtr (small_at (drop 1 bs)).0, (small_at (drop 1 bs)).1)
    else (ModInt, drop 1 bs)

-- a line of a block
unfoldable pub line_at : List ℕ → Block × List ℕ
line_at bs =
    (record { shape = (shape_at bs).0; words = (words_at (shape_at bs).1).0 }, drop 1 (words_at (shape_at bs).1).1)

-- the given number of things that are read so, one after another, up to the end of the bytes; and the bytes after them
unfoldable pub many_from : {A : Type 0} → (List ℕ → A × List ℕ) → ℕ → List ℕ → List A × List ℕ
many_from read zero bs = ([], bs)
many_from read (suc n) bs =
    if length bs == 0 then ([], bs)
    else ((read bs).0 ∷ (many_from read n (read bs).1).0, (many_from read n (read bs).1).1)

-- this number of lines of blocks
abbrev pub blocks_from : ℕ → List ℕ → List Block × List ℕ
blocks_from n bs = many_from line_at n bs

-- a key, and the bytes after it
unfoldable pub key_at : List ℕ → Key × List ℕ
key_at bs =
    if first_byte bs == 102
    then (Init (small_at (drop 1 bs)).0 (words_at (small_at (drop 1 bs)).1).0, (words_at (small_at (drop 1 bs)).1).1)
    else if first_byte bs == 112 then (PtrKey (small_at (drop 1 bs)).0, (small_at (drop 1 bs)).1)
    else (IntKey, drop 1 bs)

-- after `a `
unfoldable pub alloc_at : List ℕ → Item × List ℕ
alloc_at bs = (Alloc (block_at bs).0 (key_at (drop 1 (block_at bs).1)).0, drop 1 (key_at (drop 1 (block_at bs).1)).1)

-- after `w `
unfoldable pub write_at : List ℕ → Item × List ℕ
write_at bs = (Write (place_at bs).0 (word_at (drop 1 (place_at bs).1)).0, drop 1 (word_at (drop 1 (place_at bs).1)).1)

-- after ` u`: a unit, a variable and arguments
abbrev pub closure_read : Place → Word → List ℕ → Item × List ℕ
closure_read p value bs =
    let u = small_at bs in
    let v = small_at (drop 2 u.1) in
    let args = words_at v.1 in
    (Read p value (record { 0 = u.0 }) v.0 args.0, drop 1 args.1)

-- after `r `
unfoldable pub read_at : List ℕ → Item × List ℕ
read_at bs =
    closure_read (place_at bs).0 (word_at (drop 1 (place_at bs).1)).0 (drop 2 (word_at (drop 1 (place_at bs).1)).1)

-- an item, and the bytes after it
unfoldable pub item_at : List ℕ → Item × List ℕ
item_at bs =
    if first_byte bs == 115 then (Step, drop 2 bs)
    else if first_byte bs == 97 then alloc_at (drop 2 bs)
    else if first_byte bs == 119 then write_at (drop 2 bs)
    else if first_byte bs == 114 then read_at (drop 2 bs)
    else (End, drop 2 bs)

-- this number of items
abbrev pub items_from : ℕ → List ℕ → List Item × List ℕ
items_from n bs = many_from item_at n bs

-- a count and, on the lines after it, that number of blocks
unfoldable pub inputs_at : List ℕ → List Block × List ℕ
inputs_at bs = blocks_from (small_at bs).0 (drop 1 (small_at bs).1)

-- and items
unfoldable pub trace_at : List ℕ → List Item × List ℕ
trace_at bs = items_from (small_at bs).0 (drop 1 (small_at bs).1)

-- two counts, and the blocks of a memory
unfoldable pub memory_at : List ℕ → Blocks
memory_at bs =
    let a = small_at bs in
    let b = small_at (drop 1 a.1) in
    let inputs = blocks_from a.0 (drop 1 b.1) in
    record { inputs = inputs.0; made = (blocks_from b.0 inputs.1).0 }

-- after `run `: the call and what follows it
abbrev pub call_record : List Block → List ℕ → Record
call_record inputs bs =
    let f = small_at bs in
    let args = words_at f.1 in
    let trace = trace_at (drop 7 args.1) in
    record { inputs = inputs; function = f.0; args = args.0; forest = trace.0; memory = memory_at (drop 7 trace.1) }

-- the record that the bytes stand for, if they are the text of one
unfoldable pub record_at : List ℕ → Record
record_at bs = call_record (inputs_at (drop 20 bs)).0 (drop 4 (inputs_at (drop 20 bs)).1)
