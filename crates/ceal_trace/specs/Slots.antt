-- What a table keeps: a slot for each number of a stamp, and the shelf with the nodes.
use Rattle.std.specs.Prelude.{◌≡◌, ◌≢◌, ◌≤◌, ℕ, List, map, length, slice_index_or, None, IsSome, is_some, true, false}
use Rattle.ceal_trace.specs.declared.node.Node.{Node}
use Rattle.ceal_trace.specs.declared.slot.Slot.{Slot}
use Rattle.ceal_trace.specs.Nodes.{ends}
use Rattle.ceal_trace.specs.Rows.{Row, Table, no_stamp}
use Rattle.ceal_trace.specs.declared.shelf.Shelf.{Shelf}
use Rattle.ceal_trace.specs.Shelves.{IsFit, at, count_of, no_key, or_root}

abbrev pub blank_slot : Slot
blank_slot = record { key = no_key; steps = 0; end = no_stamp }

abbrev pub slot_of : List Slot → ℕ → Slot
slot_of slots s = slice_index_or slots s blank_slot

abbrev pub row_in : Shelf → Slot → Row
row_in shelf slot = record {
  node = or_root (at shelf slot.key);
  held = is_some (at shelf slot.key);
  steps = slot.steps;
  end = slot.end;
}

-- the table of slots and a shelf
abbrev pub table : List Slot → Shelf → Table
table slots shelf = record { rows = map (row_in shelf) slots; count = count_of shelf }

-- each key is that of a node, no two slots have the same one, there are no more nodes than slots,
-- and the shelf has room for as many
pub record IsTable (slots : List Slot) (shelf : Shelf) : Type 0 where
  pub fit : IsFit shelf.held shelf.apart
  pub none : at shelf no_key ≡ None
  pub there : (s : ℕ) → (slot_of slots s).key ≢ no_key → IsSome (at shelf (slot_of slots s).key)
  pub one : (s u : ℕ) → (slot_of slots s).key ≡ (slot_of slots u).key → (slot_of slots s).key ≢ no_key → s ≡ u
  pub few : count_of shelf ≤ length slots
  pub held_room : length slots ≤ shelf.held.capacity
  pub apart_room : length slots ≤ shelf.apart.capacity

-- one slot is this one now
pub record SlotSet (old new : List Slot) (at : ℕ) (slot : Slot) : Type 0 where
  pub long : length new ≡ length old
  pub changed : slot_of new at ≡ slot
  pub others : (s : ℕ) → s ≢ at → slot_of new s ≡ slot_of old s

-- a slot has its key no more, and what it had is answered
pub record KeyTaken (old new : List Slot) (at : ℕ) (was : Slot) : Type 0 where
  pub is : was ≡ slot_of old at
  pub set : SlotSet old new at (record { key = no_key; steps = was.steps; end = was.end })

abbrev pub StepsPut : List Slot → List Slot → ℕ → ℕ → Type 0
StepsPut old new at steps =
    SlotSet old new at (record { key = (slot_of old at).key; steps = steps; end = (slot_of old at).end })

abbrev pub EndPut : List Slot → List Slot → ℕ → ℕ → Type 0
EndPut old new at end =
    SlotSet old new at (record { key = (slot_of old at).key; steps = (slot_of old at).steps; end = end })

-- slots without keys were added
pub record Longer (old new : List Slot) : Type 0 where
  pub more : length old ≤ length new
  pub others : (s : ℕ) → slot_of new s ≡ slot_of old s

-- the read that a node ends is not finished any more
pub record Reopened (old new : List Slot) (node : Node) : Type 0 where
  pub long : length new ≡ length old
  pub keys : (s : ℕ) → (slot_of new s).key ≡ (slot_of old s).key
  pub steps : (s : ℕ) → (slot_of new s).steps ≡ (slot_of old s).steps
  pub opened : (s : ℕ) → ends s node ≡ true → (slot_of new s).end ≡ no_stamp
  pub others : (s : ℕ) → ends s node ≡ false → (slot_of new s).end ≡ (slot_of old s).end
