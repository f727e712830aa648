-- A modifiable: its base, its writes and its reads.
use Rattle.std.specs.Prelude.{◌≡◌, ◌<◌, ◌≤◌, ℕ, List, [], pos, true, insert}
use Rattle.ceal_base.specs.declared.word.Word.{Word}
use Rattle.ceal_base.specs.declared.word.Word.TheVariants.{Num}
use Rattle.ceal_order.specs.Stamps.{is_in, place, without}
use Rattle.ceal_order.specs.Rising.{IsRising, count_before}
use Rattle.ceal_mods.specs.Writes.{stamps_of, last_of, those_before, with_one, without_one}
use Rattle.ceal_mods.specs.declared.cell.Cell.{Cell}

-- no base was set, and nothing was written or read
abbrev pub untouched : Cell
untouched = record { base = Num (pos 0); writes = []; reads = [] }

-- the value of the latest write before a stamp, else the base
abbrev pub value_before : List ℕ → ℕ → Cell → Word
value_before order s cell = last_of cell.base (those_before order s cell.writes)

-- the value of the latest write, else the base
abbrev pub latest_value : Cell → Word
latest_value cell = last_of cell.base cell.writes

-- with another base
abbrev pub with_base : Word → Cell → Cell
with_base value cell = record { base = value; writes = cell.writes; reads = cell.reads }

-- with one more write, or without the one at a stamp
abbrev pub with_write : List ℕ → ℕ → Word → Cell → Cell
with_write order s value cell =
    record { base = cell.base; writes = with_one order s value cell.writes; reads = cell.reads }

abbrev pub without_write : ℕ → Cell → Cell
without_write s cell = record { base = cell.base; writes = without_one s cell.writes; reads = cell.reads }

-- with one more read, or without the one at a stamp
abbrev pub with_read : List ℕ → ℕ → Cell → Cell
with_read order s cell =
    record { base = cell.base; writes = cell.writes; reads = insert cell.reads (count_before order s cell.reads) s }

abbrev pub without_read : ℕ → Cell → Cell
without_read s cell = record { base = cell.base; writes = cell.writes; reads = without s cell.reads }

-- the writes and the reads rise along an order
pub record Rises (order : List ℕ) (cell : Cell) : Type 0 where
  pub writes : IsRising order (stamps_of cell.writes)
  pub reads : IsRising order cell.reads

-- a read after a stamp, with no write between the two
pub record Sees (order : List ℕ) (cell : Cell) (after read : ℕ) : Type 0 where
  pub there : is_in read cell.reads ≡ true
  pub behind : place after order < place read order
  pub clear : (w : ℕ) → is_in w (stamps_of cell.writes) ≡ true → place after order < place w order
      → place read order ≤ place w order

-- the earliest such read
pub record IsAffected (order : List ℕ) (cell : Cell) (after read : ℕ) : Type 0 where
  pub sees : Sees order cell after read
  pub earliest : (other : ℕ) → Sees order cell after other → place read order ≤ place other order
