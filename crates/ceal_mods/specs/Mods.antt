-- The modifiables of all places, with many writes in one run (Acar, Ahmed and Blume, *Imperative self-adjusting
-- computation*, POPL 2008).
use Rattle.std.specs.Prelude.{◌≡◌, ◌≢◌, ◌↔◌, ℕ, List, [], ◌∷◌, ◌++◌, Option, unwrap_or, IsSome, Bool, true, false, cond}
use Rattle.std.specs.Map.{lookup}
use Rattle.ceal_base.specs.contracts.word.PlacePartialEq.TheImpl.{ghosts}
use Rattle.ceal_base.specs.declared.word.Place.{Place}
use Rattle.ceal_base.specs.declared.word.Word.{Word}
use Rattle.ceal_order.specs.Stamps.{is_in}
use Rattle.ceal_order.specs.Rising.{KeepsOrder}
use Rattle.ceal_mods.specs.Writes.{stamps_of, AreTold}
use Rattle.ceal_mods.specs.Cell.{untouched, Rises}
use Rattle.ceal_mods.specs.Index.{where_from}
use Rattle.ceal_mods.specs.Marks.{held_in}
use Rattle.ceal_mods.specs.declared.cell.Cell.{Cell}

-- what a caller sees: the cells of the places that were touched, how often a value was looked up, and how often it
-- differed from what had been recorded of it. If places were marked, `marked` is what each place that had been touched
-- by then held at the end.
pub record Contents : Type 0 where
  pub cells : List (Place × Cell)
  pub looked : ℕ
  pub differed : ℕ
  pub marked : Option (List (Place × Word))

-- the cell of a place
abbrev pub cell_of : Contents → Place → Cell
cell_of mods p = unwrap_or (lookup (ghosts.eq p) mods.cells) untouched

-- where the cell of a place is among the cells, no slot where it has none
abbrev pub cell_slot : Contents → Place → ℕ
cell_slot mods p = where_from 0 p mods.cells

-- the place was touched: what it holds has its room
abbrev pub HasCell : Contents → Place → Type 0
HasCell mods p = IsSome (lookup (ghosts.eq p) mods.cells)

-- the places that were touched, in the order in which that came
abbrev pub places_of : List (Place × Cell) → List Place
places_of [] = []
places_of (e ∷ es) = e.0 ∷ places_of es

-- whether a place is among these
abbrev pub is_among : Place → List Place → Bool
is_among p [] = false
is_among p (q ∷ qs) = cond (ghosts.eq p q) true (is_among p qs)

-- with a place, where it is not among them yet
abbrev pub with_place : Place → List Place → List Place
with_place p places = cond (is_among p places) places (places ++ p ∷ [])

-- the places that were touched are those with cells
abbrev pub PlacesLaw : Type 0
PlacesLaw = (mods : Contents) (p : Place) → HasCell mods p ↔ is_among p (places_of mods.cells) ≡ true

-- what a place held at the end when the places were marked
abbrev pub held_at_mark : Contents → Place → Word
held_at_mark mods p = held_in (unwrap_or mods.marked []) p

-- nothing was set, written or read at any place
abbrev pub IsUntouched : Contents → Type 0
IsUntouched mods = (p : Place) → cell_of mods p ≡ untouched

-- the writes of each place are told with their values
abbrev pub AllTold : (ℕ → Option Word) → Contents → Type 0
AllTold tells mods = (p : Place) → AreTold tells (cell_of mods p).writes

-- The new contents have this cell at a place, and the others' cells, the look-ups and what was marked as the old ones.
-- No cell is entered but that of the place, where it had none, and each one stays where it is.
pub record Changes (old new : Contents) (p : Place) (cell : Cell) : Type 0 where
  pub here : cell_of new p ≡ cell
  pub others : (q : Place) → q ≢ p → cell_of new q ≡ cell_of old q
  pub places : places_of new.cells ≡ with_place p (places_of old.cells)
  pub looked : new.looked ≡ old.looked
  pub differed : new.differed ≡ old.differed
  pub marked : new.marked ≡ old.marked

-- modifiables follow an order along which the writes and the reads of each place rise
abbrev pub Follows : List ℕ → Contents → Type 0
Follows order mods = (p : Place) → Rises order (cell_of mods p)

-- the new order keeps the stamps of each place's writes, and those of its reads, and their order
abbrev pub KeepsStamps : Contents → List ℕ → List ℕ → Type 0
KeepsStamps mods old new = (p : Place)
    → KeepsOrder (stamps_of (cell_of mods p).writes) old new × KeepsOrder (cell_of mods p).reads old new

-- a stamp at which nothing is written or read
abbrev pub IsFree : ℕ → Contents → Type 0
IsFree s mods = (p : Place)
    → (is_in s (stamps_of (cell_of mods p).writes) ≡ false) × (is_in s (cell_of mods p).reads ≡ false)
