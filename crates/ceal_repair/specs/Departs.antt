-- Where the nodes of a trace depart from those of an old one: at reads that were stale, and inside them.
use Rattle.std.specs.Prelude.{◌≡◌, ◌≢◌, ℕ, ◌+◌, true, List, [], ◌∷◌, ◌++◌}
use Rattle.ceal_base.specs.declared.forest.UnitId.{UnitId}
use Rattle.ceal_base.specs.declared.word.Place.{Place}
use Rattle.ceal_base.specs.declared.word.Word.{Word}
use Rattle.ceal_order.specs.Stamps.{is_in}
use Rattle.ceal_repair.specs.Entries.{entry, end_entry, entries}
use Rattle.ceal_repair.specs.Kept.{IsStale}
use Rattle.ceal_repair.specs.declared.tables.Tables.{Tables}
use Rattle.ceal_theory.specs.Counts.{reads_of}
use Rattle.ceal_theory.specs.Groves.{Grove, trace_in}
use Rattle.ceal_trace.specs.Nodes.{Entry, stamps_in}
use Rattle.ceal_trace.specs.declared.node.Node.TheVariants.{Read}

-- The new nodes are the old ones, but that some reads have another value, and whatever nodes inside. The number is that
-- of these reads and of all reads inside them.
pub data Departs : List Entry → List Entry → ℕ → Type 0 where
  none : Departs [] [] 0
  kept : {e : Entry} {old new : List Entry} {n : ℕ} → Departs old new n → Departs (e ∷ old) (e ∷ new) n
  apart : {old new : List Entry} {n : ℕ} (read : ℕ) (p : Place) (v w : Word) (unit : UnitId) (var : ℕ)
      (args : List Word) (steps more : ℕ) (was is : Grove) (end after : ℕ)
      → v ≢ w → Departs old new n
      → Departs (entry read (Read p v unit var args) steps ∷ (entries was ++ end_entry end read after ∷ old))
      (entry read (Read p w unit var args) more ∷ (entries is ++ end_entry end read after ∷ new))
      (1 + reads_of (trace_in is) + n)

-- they depart so, at whatever number of reads
abbrev pub DepartsSo : List Entry → List Entry → Type 0
DepartsSo old new = (n : ℕ) × Departs old new n

-- Some nodes at the beginning depart from old ones. The later ones are old, and each read that is stale is one of them.
pub record DepartsUpTo (old : List Entry) (t : Tables) : Type 0 where
  pub front : List Entry
  pub now : List Entry
  pub behind : List Entry
  pub reads : ℕ
  pub was : old ≡ front ++ behind
  pub is : t.trace.nodes ≡ now ++ behind
  pub departs : Departs front now reads
  pub ahead : (r : ℕ) → IsStale r t → is_in r (stamps_in behind) ≡ true
