-- A region is a finite map from slots to lists of words, with a number of spare slots for each length.
use Rattle.std.specs.Prelude.{◌≡◌, ◌≢◌, ℕ, ◌^◌, ◌==◌, if◌then◌else◌, List, [], length, Option, Some, None, slice_get}
use Rattle.ceal_words.specs.Lengths.{size_class}
use Rattle.ceal_words.specs.SizeClass.{SizeClass, words_at, word_in}
use Rattle.ceal_words.specs.declared.slot.Slot.{Slot}

-- the words, where they are as many as the slot has
abbrev pub of_length : ℕ → Option (List ℕ) → Option (List ℕ)
of_length len None = None
of_length len (Some words) = if length words == len then Some words else None

-- the words at a place of a size class, if it is there and they are of this length
abbrev pub words_in : Option SizeClass → ℕ → ℕ → Option (List ℕ)
words_in None at len = None
words_in (Some class) at len = of_length len (words_at class.pieces at)

-- the words of a slot, or None where the region has no such slot
abbrev pub words_of : List SizeClass → Slot → Option (List ℕ)
words_of region slot = words_in (slice_get region slot.chunk) slot.at slot.len

-- one word of a slot
abbrev pub word_of : List SizeClass → Slot → ℕ → Option ℕ
word_of region slot index = word_in (words_of region slot) index

-- the length of a slot
abbrev pub slot_len : Slot → ℕ
slot_len slot = slot.len

-- how many slots a size class has left
abbrev pub spare_in : Option SizeClass → ℕ
spare_in None = 0
spare_in (Some class) = class.spare

-- how many slots of a length can still be taken: one number for all lengths that round up to the same power of two
abbrev pub spare : List SizeClass → ℕ → ℕ
spare region len = spare_in (slice_get region (size_class len))

-- each slot but this one has the words that it had
abbrev pub KeepsOthers : Slot → List SizeClass → List SizeClass → Type 0
KeepsOthers slot before after = (other : Slot) → other ≢ slot → words_of after other ≡ words_of before other

-- each slot has the words that it had
abbrev pub KeepsAll : List SizeClass → List SizeClass → Type 0
KeepsAll before after = (slot : Slot) → words_of after slot ≡ words_of before slot

-- the lengths that round up otherwise have as many spare slots as before
abbrev pub KeepsOtherSpares : ℕ → List SizeClass → List SizeClass → Type 0
KeepsOtherSpares len before after =
    (other : ℕ) → size_class other ≢ size_class len → spare after other ≡ spare before other

-- of each length as many slots are left as before
abbrev pub KeepsSpares : List SizeClass → List SizeClass → Type 0
KeepsSpares before after = (len : ℕ) → spare after len ≡ spare before len

-- there is no slot, and none can be taken
pub record IsEmpty (region : List SizeClass) : Type 0 where
  pub no_slot : (slot : Slot) → words_of region slot ≡ None
  pub no_spare : (len : ℕ) → spare region len ≡ 0

-- the size classes are those of the first powers of two
pub record IsInOrder (count : ℕ) (region : List SizeClass) : Type 0 where
  pub counted : length region ≡ count
  pub sizes : (k : ℕ) (class : SizeClass) → slice_get region k ≡ Some class → class.size ≡ 2 ^ k

-- the size classes are new
abbrev pub AreNew : List SizeClass → Type 0
AreNew region = (k : ℕ) (class : SizeClass) → slice_get region k ≡ Some class → (class.pieces ≡ []) × (class.spare ≡ 0)
