-- Words that are written, and room after them.
use Rattle.std.specs.Prelude.{◌≡◌, ℕ, ◌*◌, ◌-◌, ◌^◌, ◌<◌, ◌≤◌, List, [], ◌∷◌, ◌++◌, length, map, replicate, Option}
use Rattle.std.specs.Prelude.{Some, None}

-- the words that cells hold, up to the first cell that is not written
abbrev pub held : List (Option ℕ) → List ℕ
held [] = []
held (None ∷ cs) = []
held (Some x ∷ cs) = x ∷ held cs

-- as many cells as there is room for, of which the first ones, `count` of them, are written
pub record IsWritten (cells : List (Option ℕ)) (count room : ℕ) : Type 0 where
  pub all : cells ≡ map Some (held cells) ++ replicate (room - count) None
  pub counted : length (held cells) ≡ count
  pub within : count ≤ room
  pub fits : room * 8 < 2 ^ 63
