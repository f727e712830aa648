-- Sets of variables: lists of their numbers, ascending.
use Rattle.std.specs.Prelude.{ℕ, ◌<◌, ◌==◌, ◌||◌, Bool, false, Option, Some, None, List, [], ◌∷◌, slice_index_or}

-- whether the number is in the list
abbrev pub is_in : ℕ → List ℕ → Bool
is_in v [] = false
is_in v (x ∷ xs) = x == v || is_in v xs

-- the number is below the first of the list
abbrev pub IsBelow : ℕ → List ℕ → Type 0
IsBelow x [] = Unit {0}
IsBelow x (y ∷ ys) = x < y

-- each number is below those that follow it
abbrev pub IsAscending : List ℕ → Type 0
IsAscending [] = Unit {0}
IsAscending (x ∷ xs) = IsBelow x xs × IsAscending xs

-- the variable is this one, if it is one
abbrev pub is_that : Option ℕ → ℕ → Bool
is_that None w = false
is_that (Some v) w = v == w

-- the set of this number, and the empty one where there is none
abbrev pub set_at : List (List ℕ) → ℕ → List ℕ
set_at sets b = slice_index_or sets b []
