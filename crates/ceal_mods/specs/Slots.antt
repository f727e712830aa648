-- Slots by two numbers: rows of slots.
use Rattle.std.specs.Prelude.{◌≡◌, ℕ, List, [], slice_index_or}

-- stands for no slot
abbrev pub no_slot : ℕ
no_slot = 4294967295

-- the slot at a number of a row; after its end there is none
abbrev pub slot_at : List ℕ → ℕ → ℕ
slot_at slots n = slice_index_or slots n no_slot

-- the slot at a number of one of the rows; after the last one there is none
abbrev pub slot_in : List (List ℕ) → ℕ → ℕ → ℕ
slot_in rows m n = slot_at (slice_index_or rows m []) n

-- the rows have the same slots
abbrev pub SameSlots : List (List ℕ) → List (List ℕ) → Type 0
SameSlots old new = (m n : ℕ) → slot_in new m n ≡ slot_in old m n
