-- What the queue of stale reads has that it had not before.
use Rattle.std.specs.Prelude.{◌≡◌, ◌<◌, ℕ, true, false}
use Rattle.ceal_base.specs.declared.word.Place.{Place}
use Rattle.ceal_mods.specs.Mods.{cell_of}
use Rattle.ceal_order.specs.Stamps.{is_in, place}
use Rattle.ceal_repair.specs.declared.tables.Tables.{Tables}
use Rattle.ceal_trace.specs.Nodes.{stamps_in}

-- nothing has left the queue
abbrev pub KeepsQueued : Tables → Tables → Type 0
KeepsQueued old new = (s : ℕ) → is_in s old.stale.stamps ≡ true → is_in s new.stale.stamps ≡ true

-- what has come into it are reads of a place
abbrev pub QueuesReadsOf : Place → Tables → Tables → Type 0
QueuesReadsOf p old new =
    (s : ℕ) → is_in s old.stale.stamps ≡ false → is_in s new.stale.stamps ≡ true
    → is_in s (cell_of old.mods p).reads ≡ true

-- what has come into it is after a node
abbrev pub QueuesAfter : ℕ → Tables → Tables → Type 0
QueuesAfter node old new =
    (s : ℕ) → is_in s old.stale.stamps ≡ false → is_in s new.stale.stamps ≡ true
    → place node (stamps_in old.trace.nodes) < place s (stamps_in old.trace.nodes)
