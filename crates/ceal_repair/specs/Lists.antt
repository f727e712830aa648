-- What the nodes of a trace record, by place and by key.
use Rattle.std.specs.Prelude.{◌≡◌, ℕ, List, [], ◌∷◌, ◌==◌, Bool, false, Option, None, Some, if◌then◌else◌}
use Rattle.ceal_base.specs.Operators.{same_place}
use Rattle.ceal_base.specs.declared.forest.Key.{Key}
use Rattle.ceal_base.specs.declared.word.Place.{Place}
use Rattle.ceal_base.specs.declared.word.Word.{Word}
use Rattle.ceal_memo.specs.Keys.{EntryKey, OfRead, OfAlloc, ReadKey}
use Rattle.ceal_memo.specs.Memo.{Contents as Entered, Holds}
use Rattle.ceal_mods.specs.Mods.{Contents, cell_of}
use Rattle.ceal_mods.specs.Writes.{Write as WriteOf}
use Rattle.ceal_theory.specs.Levels.{same_read}
use Rattle.ceal_theory.specs.Take.{same_key}
use Rattle.ceal_trace.specs.Nodes.{Entry, node_at}
use Rattle.ceal_trace.specs.declared.node.Node.{Node}
use Rattle.ceal_trace.specs.declared.node.Node.TheVariants.{Alloc, Write, Read}

-- whether a node is a read of a place
abbrev pub reads_at : Place → Node → Bool
reads_at p (Read q value unit var args) = same_place q p
reads_at p _ = false

-- whether a node is an allocation with a key
abbrev pub allocates : Key → Node → Bool
allocates key (Alloc block k) = same_key k key
allocates key _ = false

-- whether a node is a read with a key: of its place, with its closure
abbrev pub recalls : ReadKey → Node → Bool
recalls key (Read q value unit var args) = same_read q unit var args key.place key.unit key.var key.args
recalls key _ = false

-- the key of an entry that a node has
abbrev pub key_of : Option Node → Option EntryKey
key_of (Some (Alloc block key)) = Some (OfAlloc key)
key_of (Some (Read p value unit var args)) =
    Some (OfRead (record { place = p; unit = unit; var = var; args = args }))
key_of _ = None

-- the entries of a memo of nodes: the reads and the allocations, with their keys
abbrev pub entries_in : List Entry → ℕ → Option EntryKey
entries_in nodes s = key_of (node_at s nodes)

-- the stamps of the nodes of which something is true, in the order of time
abbrev pub stamps_where : (Node → Bool) → List Entry → List ℕ
stamps_where holds [] = []
stamps_where holds (e ∷ es) = if holds e.node then e.stamp ∷ stamps_where holds es else stamps_where holds es

-- what a node adds to the writes of a place
abbrev pub write_of : Place → ℕ → Node → List WriteOf → List WriteOf
write_of p s (Write q value) later = if same_place q p then record { stamp = s; value = value } ∷ later else later
write_of p s _ later = later

-- the writes of a place, in the order of time
abbrev pub writes_in : Place → List Entry → List WriteOf
writes_in p [] = []
writes_in p (e ∷ es) = write_of p e.stamp e.node (writes_in p es)

-- the value that a node writes, None where it is no write
abbrev pub value_written : Option Node → Option Word
value_written (Some (Write p value)) = Some value
value_written _ = None

-- the values of the writes of nodes, by their stamps
abbrev pub told_in : List Entry → ℕ → Option Word
told_in nodes s = value_written (node_at s nodes)

-- the modifiables have the writes and the reads of the nodes
pub record IsTabled (nodes : List Entry) (mods : Contents) : Type 0 where
  pub writes : (p : Place) → (cell_of mods p).writes ≡ writes_in p nodes
  pub reads : (p : Place) → (cell_of mods p).reads ≡ stamps_where (reads_at p) nodes

-- the memo has the allocations and the reads of the nodes, by their keys
pub record IsKeyed (nodes : List Entry) (memo : Entered) : Type 0 where
  pub entries : Holds memo (entries_in nodes)

-- the nodes before one
abbrev pub before : ℕ → List Entry → List Entry
before s [] = []
before s (e ∷ es) = if e.stamp == s then [] else e ∷ before s es

-- the nodes up to one, that one too
abbrev pub up_to : ℕ → List Entry → List Entry
up_to s [] = []
up_to s (e ∷ es) = if e.stamp == s then e ∷ [] else e ∷ up_to s es

-- the nodes after one
abbrev pub nodes_after : ℕ → List Entry → List Entry
nodes_after s [] = []
nodes_after s (e ∷ es) = if e.stamp == s then es else nodes_after s es

-- the nodes after one and before another
abbrev pub between : ℕ → ℕ → List Entry → List Entry
between after until nodes = before until (nodes_after after nodes)
