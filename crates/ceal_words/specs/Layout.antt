-- How a size class lies in its chunk. Piece i has `size` words from word i * size on. A piece that a slot has
-- is marked with the slot's length, a free one with 0. The first word of a free piece is the number of the
-- next free piece.
use Rattle.std.specs.Prelude.{◌≡◌, ◌≢◌, ℕ, zero, suc, ◌*◌, ◌<◌, ◌≤◌, List, [], ◌∷◌, length, take, drop, Option, Some}
use Rattle.std.specs.Prelude.{None, slice_index}
use Rattle.ceal_words.specs.Lengths.{RoundsTo}
use Rattle.ceal_words.specs.SizeClass.{SizeClass}

-- what a slot of this length sees of the words from the start of its piece on
abbrev pub piece : ℕ → List ℕ → Option (List ℕ)
piece zero words = None
piece (suc n) words = Some (take (suc n) words)

-- the pieces from piece i on, by their marks
abbrev pub pieces_from : ℕ → ℕ → List ℕ → List ℕ → List (Option (List ℕ))
pieces_from size i [] words = []
pieces_from size i (mark ∷ marks) words = piece mark (drop (i * size) words) ∷ pieces_from size (suc i) marks words

-- the piece that a free piece names as the next one
abbrev pub link : ℕ → List ℕ → ℕ → ℕ
link size words i = slice_index words (i * size)

-- the first pieces of the free list that begins at the head
abbrev pub free_list : ℕ → List ℕ → ℕ → ℕ → List ℕ
free_list size words zero head = []
free_list size words (suc n) head = head ∷ free_list size words n (link size words head)

-- the piece is not in the list
abbrev pub IsOutside : ℕ → List ℕ → Type 0
IsOutside i [] = Unit {0}
IsOutside i (x ∷ xs) = (x ≢ i) × IsOutside i xs

-- these pieces of the free list are pieces that are free, each of them once
abbrev pub IsFreeList : ℕ → List ℕ → List ℕ → ℕ → ℕ → Type 0
IsFreeList size words marks zero head = Unit {0}
IsFreeList size words marks (suc n) head = (head < length marks) × (slice_index marks head ≡ 0)
    × IsOutside head (free_list size words n (link size words head))
    × IsFreeList size words marks n (link size words head)

-- how many pieces are free
abbrev pub free_count : List ℕ → ℕ
free_count [] = 0
free_count (zero ∷ marks) = suc (free_count marks)
free_count (suc n ∷ marks) = free_count marks

-- how the words and the marks of a chunk hold pieces of one size, of which `made` were made and `spare` more can be
pub record IsLaidOut (size : ℕ) (words marks : List ℕ) (made head spare : ℕ) : Type 0 where
  pub some : 0 < size
  pub counted : length marks ≡ made
  pub room : made * size ≤ length words
  pub lengths : (i : ℕ) → 0 < slice_index marks i → RoundsTo (slice_index marks i) size
  pub free : IsFreeList size words marks spare head
  pub every : free_count marks ≡ spare

-- the size class that lies so
abbrev pub class_of : ℕ → List ℕ → List ℕ → ℕ → SizeClass
class_of size words marks spare = record { size = size; pieces = pieces_from size 0 marks words; spare = spare }
