-- The nodes of a trace as the items of a forest.
use Rattle.std.specs.Prelude.{◌≡◌, ℕ, zero, suc, List, [], ◌∷◌, ◌++◌, Option, None, Some, true, ◌==◌, if◌then◌else◌}
use Rattle.ceal_base.specs.declared.forest.Item.{Item}
use Rattle.ceal_base.specs.declared.forest.Item.TheVariants as item
use Rattle.ceal_trace.specs.declared.node.Node.{Node}
use Rattle.ceal_trace.specs.declared.node.Node.TheVariants.{Root, Alloc, Write, Read, End}
use Rattle.ceal_trace.specs.Nodes.{Entry, ends}

-- n steps
abbrev pub ticks : ℕ → List Item
ticks zero = []
ticks (suc n) = item.Step ∷ ticks n

-- a node as an item; the root is none
abbrev pub item_of : Node → List Item
item_of Root = []
item_of (Alloc block key) = item.Alloc block key ∷ []
item_of (Write place value) = item.Write place value ∷ []
item_of (Read place value unit var args) = item.Read place value unit var args ∷ []
item_of (End read) = item.End ∷ []

-- the forest of a trace: its nodes as items, each followed by its steps
abbrev pub forest_of : List Entry → List Item
forest_of [] = []
forest_of (e ∷ es) = item_of e.node ++ (ticks e.steps ++ forest_of es)

-- the reads that are not closed after a node, the last one begun first; None at an end that is not that of the last one
abbrev pub unclosed_after : ℕ → Node → List ℕ → Option (List ℕ)
unclosed_after s (Read place value unit var args) reads = Some (s ∷ reads)
unclosed_after s (End read) [] = None
unclosed_after s (End read) (last ∷ reads) = if read.0 == last then Some reads else None
unclosed_after s _ reads = Some reads

-- the same after some nodes
abbrev pub unclosed : Option (List ℕ) → List Entry → Option (List ℕ)
unclosed None es = None
unclosed (Some reads) [] = Some reads
unclosed (Some reads) (e ∷ es) = unclosed (unclosed_after e.stamp e.node reads) es

-- each end closes the read that was begun last, and each read is closed
abbrev pub Nests : List Entry → Type 0
Nests es = unclosed (Some []) es ≡ Some []

-- nodes around a read that is closed: those before it, those inside, and those after its end
pub record Parted (read : ℕ) (nodes : List Entry) : Type 0 where
  pub before : List Entry
  pub begins : Entry
  pub inside : List Entry
  pub ends' : Entry
  pub behind : List Entry
  pub whole : nodes ≡ before ++ begins ∷ (inside ++ ends' ∷ behind)
  pub begun : begins.stamp ≡ read
  pub ended : ends read ends'.node ≡ true
  pub nests : Nests inside
  pub without : Nests (before ++ behind)
