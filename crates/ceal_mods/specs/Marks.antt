-- What the places held at the end when they were marked, and where that may be otherwise now.
use Rattle.std.specs.Prelude.{◌≡◌, ◌<◌, ◌≤◌, ◌+◌, ℕ, pos, suc, zero, false, Bool, cond, nat_lt, List, [], ◌∷◌, ◌++◌}
use Rattle.std.specs.Prelude.{length, get_or, count_by, not, unwrap_or, Option, Some, None, IfSome, ⊤}
use Rattle.std.specs.Map.{lookup}
use Rattle.ceal_base.specs.contracts.word.PlacePartialEq.TheImpl.{ghosts}
use Rattle.ceal_base.specs.contracts.word.WordPartialEq.TheImpl.{ghosts as word_ghosts}
use Rattle.ceal_base.specs.declared.word.Place.{Place}
use Rattle.ceal_base.specs.declared.word.Word.{Word}
use Rattle.ceal_base.specs.declared.word.Word.TheVariants.{Num}
use Rattle.ceal_order.specs.Stamps.{is_in, Distinct, AllBelow}
use Rattle.ceal_mods.specs.Cell.{latest_value}
use Rattle.ceal_mods.specs.Writes.{AreTold}
use Rattle.ceal_mods.specs.Index.{cell_in, Indexes}
use Rattle.ceal_mods.specs.declared.cell.Cell.{Cell}
use Rattle.ceal_mods.specs.declared.index.Index.{Index}

-- the places of cells with what they hold at the end
abbrev pub ends_of : List (Place × Cell) → List (Place × Word)
ends_of [] = []
ends_of (e ∷ es) = (e.0, latest_value e.1) ∷ ends_of es

-- what a place held by these; one that is not among them held 0
abbrev pub held_in : List (Place × Word) → Place → Word
held_in ends p = unwrap_or (lookup (ghosts.eq p) ends) (Num (pos 0))

-- the writes of each of these cells are told with their values
abbrev pub CellsTold : (ℕ → Option Word) → List (Place × Cell) → Type 0
CellsTold tells [] = ⊤
CellsTold tells (e ∷ es) = AreTold tells e.1.writes × CellsTold tells es

-- how often a place is among these
abbrev pub times : Place → List Place → ℕ
times p places = count_by (ghosts.eq p) places

-- What the places held at the end when they were marked, by the slots of their cells, and the slots at which something
-- else may be held now.
pub record Marked : Type 0 where
  pub ends : List (Place × Word)
  pub slots : List ℕ

-- what the places held, where they were marked
abbrev pub ends_in : Option Marked → Option (List (Place × Word))
ends_in None = None
ends_in (Some m) = Some m.ends

-- with a slot, where it is one of the first n and not listed yet
abbrev pub with_slot : ℕ → ℕ → List ℕ → List ℕ
with_slot n slot slots = cond (nat_lt slot n) (cond (is_in slot slots) slots (slots ++ slot ∷ [])) slots

-- something else may be held at a slot from now on
abbrev pub noted_in : ℕ → Marked → Marked
noted_in slot m = record { ends = m.ends; slots = with_slot (length m.ends) slot m.slots }

abbrev pub noted : ℕ → Option Marked → Option Marked
noted slot None = None
noted slot (Some m) = Some (noted_in slot m)

-- what was held at a slot
abbrev pub end_in : List (Place × Word) → ℕ → Word
end_in [] n = Num (pos 0)
end_in (x ∷ xs) zero = x.1
end_in (x ∷ xs) (suc n) = end_in xs n

-- how many slots are not listed
abbrev pub count_unlisted : List Bool → ℕ
count_unlisted listed = count_by not listed

-- the ends are those of the places of the first cells
abbrev pub SamePlaces : List (Place × Word) → List (Place × Cell) → Type 0
SamePlaces [] cells = ⊤
SamePlaces (x ∷ xs) [] = ⊥
SamePlaces (x ∷ xs) (e ∷ es) = (x.0 ≡ e.0) × SamePlaces xs es

-- no place has two cells
abbrev pub Apart : List (Place × Cell) → Type 0
Apart [] = ⊤
Apart (e ∷ es) = (lookup (ghosts.eq e.0) es ≡ None) × Apart es

-- what is marked are the first of these cells, and each that is not listed holds what it held
pub record Watches (m : Marked) (cells : List (Place × Cell)) : Type 0 where
  pub places : SamePlaces m.ends cells
  pub within : AllBelow (length m.ends) m.slots
  pub distinct : Distinct m.slots
  pub same : (s : ℕ) → s < length m.ends → is_in s m.slots ≡ false
      → end_in m.ends s ≡ latest_value (cell_in cells s)

-- which slots are listed is kept for each slot, and there is room to list them all
pub record IsListed (ends : List (Place × Word)) (listed : List Bool) (slots : List ℕ) (capacity : ℕ) : Type 0 where
  pub long : length listed ≡ length ends
  pub flags : (s : ℕ) → get_or listed s false ≡ is_in s slots
  pub counted : length slots + count_unlisted listed ≡ length listed
  pub room : length listed ≤ capacity

-- an index leads to the cells, of which no place has two, and what is marked of them
pub record IsWhole (index : Index) (cells : List (Place × Cell)) (marks : Option Marked) : Type 0 where
  pub indexes : Indexes index cells
  pub apart : Apart cells
  pub watched : IfSome marks (λ m. Watches m cells)

-- the place, where it holds something else than it held
abbrev pub told_of : Place → Word → Word → List Place
told_of p held now = cond (word_ghosts.eq now held) [] (p ∷ [])

-- the place of a slot, where it holds something else than it held
abbrev pub told_at : List (Place × Word) → ℕ → Word → List Place
told_at [] n now = []
told_at (x ∷ xs) zero now = told_of x.0 x.1 now
told_at (x ∷ xs) (suc n) now = told_at xs n now

-- the places of these slots that hold something else than they held
abbrev pub told : List (Place × Word) → List (Place × Cell) → List ℕ → List Place
told ends cells [] = []
told ends cells (s ∷ ss) = told_at ends s (latest_value (cell_in cells s)) ++ told ends cells ss

-- the places of these cells that do not hold 0
abbrev pub told_new : List (Place × Cell) → List Place
told_new [] = []
told_new (e ∷ es) = told_of e.0 (Num (pos 0)) (latest_value e.1) ++ told_new es
