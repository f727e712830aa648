-- What the tables take for places and for keys. A place gets a cell where it is set, written or read, and no other one
-- does; a key gets another list of the memo only where none is empty.
use Rattle.std.specs.Prelude.{◌≡◌, length}
use Rattle.ceal_base.specs.declared.word.Place.{Place}
use Rattle.ceal_memo.specs.Numbers.{UsesEmpty}
use Rattle.ceal_mods.specs.Mods.{places_of, with_place}
use Rattle.ceal_repair.specs.declared.tables.Tables.{Tables}

-- the place has a cell now, and no other place has one that had none
abbrev pub EntersPlace : Place → Tables → Tables → Type 0
EntersPlace p old new = places_of new.mods.cells ≡ with_place p (places_of old.mods.cells)

-- the places that have cells are as they were
abbrev pub EntersNone : Tables → Tables → Type 0
EntersNone old new = places_of new.mods.cells ≡ places_of old.mods.cells

-- no list of the memo was made while one was empty
abbrev pub UsesLists : Tables → Tables → Type 0
UsesLists old new = UsesEmpty old.memo.table.lists new.memo.table.lists

-- no list of the memo was made, and none went
abbrev pub KeepsLists : Tables → Tables → Type 0
KeepsLists old new = length new.memo.table.lists ≡ length old.memo.table.lists
