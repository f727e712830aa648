-- Names, and the value of each name.
use Rattle.std.specs.Prelude.{ℕ, Bool, Option, Some, None, List, ◌∷◌, [], ◌++◌, is_some, position, slice_get, codes}
use Rattle.std.specs.Prelude.{if◌then◌else◌}
use Rattle.std.specs.Fmt.{decimal}
use Rattle.std.specs.List.{list_any}
use Rattle.std.specs.Map.{keys_of, lookup}
use Rattle.std.specs.Option.{option_map}
use Rattle.std.specs.Str.{bytes_eq}

-- a name: its bytes
abbrev pub Name : Type 0
Name = List ℕ

-- both, if both are there
abbrev pub both_some : {A B : Type 0} → Option A → Option B → Option (A × B)
both_some (Some a) (Some b) = Some (a, b)
both_some _ _ = None

-- whether the name is in the table
abbrev pub has : {A : Type 0} → List (Name × A) → Name → Bool
has table name = is_some (lookup (bytes_eq name) table)

-- the name's number, which is its place in the table from 0, and what is there
unfoldable pub find : {A : Type 0} → List (Name × A) → Name → Option (ℕ × A)
find table name = both_some (position (bytes_eq name) (keys_of table)) (lookup (bytes_eq name) table)

-- what is at this number
abbrev pub second : {A : Type 0} → Name × A → A
second e = e.1

-- the value at a place of a table
abbrev pub value_at : {A : Type 0} → List (Name × A) → ℕ → Option A
value_at table n = option_map second (slice_get table n)

-- the names with this one, each of them once
abbrev pub with_name : List Name → Name → List Name
with_name names name = if list_any (bytes_eq name) names then names else names ++ name ∷ []

-- the name of an element of a row
abbrev pub element_name : Name → ℕ → Name
element_name name i = name ++ codes "[" ++ decimal i ++ codes "]"
