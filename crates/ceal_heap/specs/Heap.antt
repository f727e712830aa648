-- A heap: the state of each block, and the slots of the region (for blocks that are revoked first and released later:
-- Hammer and Acar, *Memory management for self-adjusting computation*, ISMM 2008).
use Rattle.std.specs.Prelude.{◌≡◌, ◌≢◌, ℕ, List, ◌++◌, length, Option, Some, None, IsSome, option_map, pos, slice_get}
use Rattle.std.specs.Prelude.{slice_index_or}
use Rattle.ceal_base.specs.Block.{Block}
use Rattle.ceal_base.specs.declared.kind.Shape.{Shape}
use Rattle.ceal_base.specs.declared.word.BlockId.{BlockId}
use Rattle.ceal_base.specs.declared.word.BlockId.TheVariants.{Input, Core}
use Rattle.ceal_base.specs.declared.word.Word.{Word}
use Rattle.ceal_base.specs.declared.word.Word.TheVariants.{Num}
use Rattle.ceal_words.specs.Region.{words_of, KeepsAll}
use Rattle.ceal_words.specs.SizeClass.{SizeClass}
use Rattle.ceal_words.specs.declared.slot.Slot.{Slot}
use Rattle.ceal_heap.specs.Cells.{read_at, cells_at, cell_count}
use Rattle.ceal_heap.specs.Parts.{filling}
use Rattle.ceal_heap.specs.Table.{tally, is_live, is_revoked}
use Rattle.ceal_heap.specs.declared.number.Held.{Held}
use Rattle.ceal_heap.specs.declared.number.Number.{Number}
use Rattle.ceal_heap.specs.declared.number.State.{State}
use Rattle.ceal_heap.specs.declared.number.State.TheVariants.{Live as LiveState, Revoked as RevokedState}
use Rattle.ceal_heap.specs.declared.number.State.TheVariants.{Released as ReleasedState}

-- what a caller sees of a heap: the numbers that were given out, from 0 on, and the region of raw words
pub record Contents : Type 0 where
  pub numbers : List Number
  pub region : List SizeClass

-- what is known of a block: its shape, its words, and the slot that has them
pub record Known : Type 0 where
  pub shape : Shape
  pub words : List Word
  pub slot : Slot

-- the state of a block: its number was never given out, it is live, it was revoked and can still be read, or it was
-- released and its number waits for another block, of any shape
pub data Standing : Type 0 where
  Unused : Standing
  Live : (block : Known) → Standing
  Revoked : (block : Known) → Standing
  Released : (shape : Shape) → Standing

-- the words of a block: those of its slot, and what comes after them
abbrev pub words_held : List SizeClass → Held → List Word
words_held region held = read_at region held.slot ++ filling held.parts

-- what is known of a block, by what holds it
abbrev pub known_in : List SizeClass → Shape → Held → Known
known_in region shape held = record { shape = shape; words = words_held region held; slot = held.slot }

-- the public state of a number, by the state in the table
abbrev pub state_standing : List SizeClass → Shape → State → Standing
state_standing region shape (LiveState held) = Live (known_in region shape held)
state_standing region shape (RevokedState held) = Revoked (known_in region shape held)
state_standing region shape ReleasedState = Released shape

-- the state of a number, and that it is unused where it is not there
abbrev pub number_standing : List SizeClass → Option Number → Standing
number_standing region None = Unused
number_standing region (Some number) = state_standing region number.shape number.state

-- the state of a block in a heap; an input block has none
abbrev pub standing : Contents → BlockId → Standing
standing heap (Input n) = Unused
standing heap (Core n) = number_standing heap.region (slice_get heap.numbers n)

-- what a state says of a block: something of a live one, and only of a revoked one
abbrev pub known : Standing → Option Known
known Unused = None
known (Live block) = Some block
known (Revoked block) = Some block
known (Released shape) = None

-- a live or revoked block, or None
abbrev pub block_of : Contents → BlockId → Option Known
block_of heap b = known (standing heap b)

-- the block without its slot
abbrev pub plain_block : Known → Block
plain_block block = record { shape = block.shape; words = block.words }

-- the heap as a map from live and revoked blocks to shape and words
abbrev pub plain_of : Contents → BlockId → Option Block
plain_of heap b = option_map plain_block (block_of heap b)

-- a word of a block; past its words it is the number 0
abbrev pub word_at : List Word → ℕ → Word
word_at words index = slice_index_or words index (Num (pos 0))

-- how many blocks are live
abbrev pub live_count : Contents → ℕ
live_count heap = tally is_live heap.numbers

-- how many were revoked and not yet released
abbrev pub revoked_count : Contents → ℕ
revoked_count heap = tally is_revoked heap.numbers

-- the number that is given out next where none is released
abbrev pub next : Contents → ℕ
next heap = length heap.numbers

-- the live block of this standing is revoked
abbrev pub revoked : Standing → Standing
revoked Unused = Unused
revoked (Live block) = Revoked block
revoked (Revoked block) = Revoked block
revoked (Released shape) = Released shape

-- the revoked block of this standing is taken away
abbrev pub released : Standing → Standing
released Unused = Unused
released (Live block) = Live block
released (Revoked block) = Released block.shape
released (Released shape) = Released shape

-- a live block
abbrev pub IsLive : Contents → BlockId → Type 0
IsLive heap b = (block : Known) × (standing heap b ≡ Live block)

-- a live block of this shape and words
abbrev pub IsMade : Contents → BlockId → Shape → List Word → Type 0
IsMade heap b shape words =
    (slot : Slot) × (standing heap b ≡ Live (record { shape = shape; words = words; slot = slot }))

-- no number waits for another block
abbrev pub NoneReleased : Contents → Type 0
NoneReleased heap = (b : BlockId) (shape : Shape) → standing heap b ≢ Released shape

-- The number that a new block gets: a released one, whose last block had this shape, or the next number where none is
-- released.
abbrev pub IsFree : Contents → BlockId → Option Shape → Type 0
IsFree heap b (Some shape) = standing heap b ≡ Released shape
IsFree heap b None = (b ≡ Core (next heap)) × NoneReleased heap

-- each block but this one has the same state
abbrev pub KeepsBlocks : BlockId → Contents → Contents → Type 0
KeepsBlocks b before after = (other : BlockId) → other ≢ b → standing after other ≡ standing before other

-- the revoked blocks were taken away, and no others
abbrev pub ReleasesRevoked : Contents → Contents → Type 0
ReleasesRevoked before after = (b : BlockId) → standing after b ≡ released (standing before b)

-- where the revoked blocks are taken away, both are the same
abbrev pub ReleasesAlike : Contents → Contents → Type 0
ReleasesAlike before after = (b : BlockId) → released (standing after b) ≡ released (standing before b)

-- nothing changed that a caller sees: the numbers, the state of each block, and the words of each slot
pub record IsUnchanged (before after : Contents) : Type 0 where
  pub numbers : after.numbers ≡ before.numbers
  pub blocks : (b : BlockId) → standing after b ≡ standing before b
  pub slots : KeepsAll before.region after.region

-- the slots of the region are exactly those of the live and the revoked blocks, each of them that of one block
pub record HasSlots (heap : Contents) : Type 0 where
  pub there : (b : BlockId) (block : Known) → block_of heap b ≡ Some block → IsSome (words_of heap.region block.slot)
  pub one : (a b : BlockId) (x y : Known) → block_of heap a ≡ Some x → block_of heap b ≡ Some y → x.slot ≡ y.slot
      → a ≡ b
  pub all : (slot : Slot) → IsSome (words_of heap.region slot)
      → (b : BlockId) × (block : Known) × (block_of heap b ≡ Some block) × (block.slot ≡ slot)

-- no number was given out, and the region has no slot
pub record IsNew (heap : Contents) : Type 0 where
  pub blocks : (b : BlockId) → standing heap b ≡ Unused
  pub slots : (slot : Slot) → words_of heap.region slot ≡ None

-- the number of a block
abbrev pub number_of : BlockId → ℕ
number_of (Input n) = n
number_of (Core n) = n

-- how what is kept of blocks, by their numbers, lies in the region: each has as many cells as its kept words need, each
-- slot is that of one number, and there are no other slots
pub record IsKept (held : ℕ → Option Held) (region : List SizeClass) : Type 0 where
  pub cells : (n : ℕ) (x : Held) → held n ≡ Some x → cells_at region x.slot ≡ cell_count x.parts.kept
  pub one : (n m : ℕ) (x y : Held) → held n ≡ Some x → held m ≡ Some y → x.slot ≡ y.slot → n ≡ m
  pub all : (slot : Slot) → IsSome (words_of region slot) → (n : ℕ) × (x : Held) × (held n ≡ Some x) × (x.slot ≡ slot)
