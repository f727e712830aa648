-- Where the cells of places are.
use Rattle.std.specs.Prelude.{◌≡◌, ◌≤◌, ℕ, suc, zero, List, [], ◌∷◌, length, unwrap_or, cond, ◌==◌, if◌then◌else◌}
use Rattle.std.specs.Map.{lookup}
use Rattle.ceal_base.specs.contracts.word.PlacePartialEq.TheImpl.{ghosts}
use Rattle.ceal_base.specs.declared.word.BlockId.{BlockId}
use Rattle.ceal_base.specs.declared.word.BlockId.TheVariants.{Input, Core}
use Rattle.ceal_base.specs.declared.word.Place.{Place}
use Rattle.ceal_mods.specs.declared.cell.Cell.{Cell}
use Rattle.ceal_mods.specs.declared.index.Index.{Index}
use Rattle.ceal_mods.specs.Cell.{untouched}
use Rattle.ceal_mods.specs.Slots.{no_slot, slot_in}

-- the slot in the sheet of a kind of blocks
abbrev pub near_in : Index → BlockId → ℕ → ℕ
near_in index (Input number) field = slot_in index.inputs field number
near_in index (Core number) field = slot_in index.cores field number

abbrev pub near_of : Index → Place → ℕ
near_of index p = near_in index p.block p.field

-- the slot in the hash map
abbrev pub far_of : Index → Place → ℕ
far_of index p = unwrap_or (lookup (ghosts.eq p) index.far.entries) no_slot

-- the slot of a place
abbrev pub slot_of : Index → Place → ℕ
slot_of index p = if near_of index p == no_slot then far_of index p else near_of index p

-- where the cell of a place is among cells, the first of which is at i
abbrev pub where_from : ℕ → Place → List (Place × Cell) → ℕ
where_from i p [] = no_slot
where_from i p (e ∷ es) = cond (ghosts.eq p e.0) i (where_from (suc i) p es)

-- the cell at a slot
abbrev pub cell_in : List (Place × Cell) → ℕ → Cell
cell_in [] n = untouched
cell_in (e ∷ es) zero = e.1
cell_in (e ∷ es) (suc n) = cell_in es n

-- the cell at a slot is another one now
abbrev pub with_cell : ℕ → Cell → List (Place × Cell) → List (Place × Cell)
with_cell n cell [] = []
with_cell zero cell (e ∷ es) = (e.0, cell) ∷ es
with_cell (suc n) cell (e ∷ es) = e ∷ with_cell n cell es

-- an index leads to the cell of each place
pub record Indexes (index : Index) (cells : List (Place × Cell)) : Type 0 where
  pub slots : (p : Place) → slot_of index p ≡ where_from 0 p cells
  pub few : length cells ≤ no_slot
