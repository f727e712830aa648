-- What a contract sees of a size class, and of a region: one size class for each power of two.
use Rattle.std.specs.Prelude.{ℕ, ◌+◌, ◌-◌, List, ◌++◌, replicate, Option, Some, None, slice_get, slice_set}
use Rattle.std.specs.Prelude.{slice_index_or}

-- the pieces of one length: of each the words of the slot that has it, or None where it is free; and how many are free
pub record SizeClass : Type 0 where
  pub size : ℕ
  pub pieces : List (Option (List ℕ))
  pub spare : ℕ

-- the words at a piece
abbrev pub words_at : List (Option (List ℕ)) → ℕ → Option (List ℕ)
words_at pieces at = slice_index_or pieces at None

-- one of the words
abbrev pub word_in : Option (List ℕ) → ℕ → Option ℕ
word_in None index = None
word_in (Some words) index = slice_get words index

-- the words with another one at the index
abbrev pub changed : Option (List ℕ) → ℕ → ℕ → Option (List ℕ)
changed None index value = None
changed (Some words) index value = Some (slice_set words index value)

-- the class where a slot has taken a free piece
abbrev pub taken : ℕ → List ℕ → SizeClass → SizeClass
taken at words class = record class { pieces = slice_set class.pieces at (Some words); spare = class.spare - 1 }

-- the class where a piece was given back
abbrev pub given : ℕ → SizeClass → SizeClass
given at class = record class { pieces = slice_set class.pieces at None; spare = class.spare + 1 }

-- the class with another word in a piece
abbrev pub with_word : ℕ → ℕ → ℕ → SizeClass → SizeClass
with_word at index value class =
    record class { pieces = slice_set class.pieces at (changed (words_at class.pieces at) index value) }

-- the class with more free pieces
abbrev pub grown : ℕ → SizeClass → SizeClass
grown more class = record class { pieces = class.pieces ++ replicate more None; spare = class.spare + more }
