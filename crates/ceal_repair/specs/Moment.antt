-- What a repair is at a moment: the machine of repair as a function of the nodes after the cursor.
use Rattle.std.specs.Prelude.{◌≡◌, ℕ, Option, Some, None, List, [], ◌∷◌, ◌++◌, length, ⊤}
use Rattle.ceal_base.specs.Block.{Block}
use Rattle.ceal_base.specs.declared.forest.Item.{Item}
use Rattle.ceal_base.specs.declared.word.Place.{Place}
use Rattle.ceal_base.specs.declared.word.Word.{Word}
use Rattle.ceal_code.specs.Program.{Code}
use Rattle.ceal_code.specs.Replay.{Store, KnownBlock}
use Rattle.ceal_code.specs.Step.{Stack}
use Rattle.ceal_heap.specs.Heap.{Contents}
use Rattle.ceal_order.specs.declared.stamp.Stamp.{Stamp}
use Rattle.ceal_repair.specs.Around.{Bounds, Tails, Passes}
use Rattle.ceal_repair.specs.Blocks.{HasBlocks, Given}
use Rattle.ceal_repair.specs.Entries.{entries, entry}
use Rattle.ceal_repair.specs.Words.{words_of}
use Rattle.ceal_repair.specs.Frames.{Frame, Begun, Taken, Kept as FrameKept}
use Rattle.ceal_repair.specs.Covered.{contents_after}
use Rattle.ceal_repair.specs.Kept.{Kept, QueuedAfter, base_in}
use Rattle.ceal_repair.specs.declared.tables.Tables.{Tables}
use Rattle.ceal_theory.specs.Chosen.{ComesBy, first_begins}
use Rattle.ceal_theory.specs.Course.{Wait, fixing_at, running_at}
use Rattle.ceal_theory.specs.Cover.{known_after}
use Rattle.ceal_theory.specs.Groves.{Grove, Bare}
use Rattle.ceal_theory.specs.Known.{Knows, KnownItems}
use Rattle.ceal_theory.specs.Repair.{State}
use Rattle.ceal_theory.specs.Moves.{Machine}
use Rattle.ceal_trace.specs.Items.{ticks, item_of, forest_of, unclosed}
use Rattle.ceal_trace.specs.Nodes.{Entry, end_in}
use Rattle.ceal_trace.specs.declared.node.Node.{Node}
use Rattle.ceal_trace.specs.declared.node.Node.TheVariants.{Root}

-- the parts of a repair under way: its tables and its heap, the steps that were re-executed, the stamp of the cursor,
-- the limit of what is left over, and what follows, the next first
pub record View : Type 0 where
  pub tables : Tables
  pub heap : Contents
  pub spent : ℕ
  pub cursor : ℕ
  pub limit : Option Stamp
  pub frames : List Frame

-- Where the run of one unit by itself began, and what stays until it ends. That is its machine; the blocks that were
-- there before any was made, how many numbers had been given out then, the numbers that new blocks were given since,
-- and the blocks that old items name. It is also the nodes before the one after which it runs, that node, and the reads
-- that are open after it; and the limit and the nodes from there on.
pub record Start : Type 0 where
  pub machine : Machine
  pub first : List ℕ
  pub numbers : ℕ
  pub chosen : List ℕ
  pub old : List ℕ
  pub before : List Entry
  pub stamp : ℕ
  pub node : Node
  pub reads : List ℕ
  pub limit : Option Stamp
  pub beyond : List Entry

-- a run from nothing begins after the root, with nothing left over
abbrev pub first_start : Code → List Block → ℕ → List Word → Start
first_start code inputs f args = record {
  machine = first_begins code inputs f args;
  first = [];
  numbers = 0;
  chosen = [];
  old = [];
  before = [];
  stamp = 0;
  node = Root;
  reads = [];
  limit = None;
  beyond = [];
}

-- the items before those that the machine writes
abbrev pub items_before : Start → List Item
items_before start = forest_of start.before ++ item_of start.node

-- nodes in front, the last of them at the cursor
abbrev pub through : List Entry → Entry → List Entry
through done last = done ++ last ∷ []

-- nodes that begin with those before the start, unchanged, and with the node after which the run began
pub record Began (start : Start) (front : List Entry) : Type 0 where
  pub steps : ℕ
  pub fresh : List Entry
  pub same : front ≡ start.before ++ entry start.stamp start.node steps ∷ fresh

-- the reads that are begun and wait for their ends have none
abbrev pub Unfinished : List Frame → List Entry → Type 0
Unfinished [] nodes = ⊤
Unfinished (Begun below read ∷ fs) nodes = (end_in read.0 nodes ≡ None) × Unfinished fs nodes
Unfinished (Taken below limit ∷ fs) nodes = Unfinished fs nodes
Unfinished (FrameKept until ∷ fs) nodes = Unfinished fs nodes

-- The nodes: those in front are final, the last of them is at the cursor, and nothing before it or at it is queued;
-- then those after. These reads are open after the cursor, and then those that were open at the start.
pub record Placed (start : Start) (v : View) (reads : List ℕ) (behind : List Entry) : Type 0 where
  pub kept : Kept v.tables
  pub done : List Entry
  pub last : Entry
  pub nodes : v.tables.trace.nodes ≡ through done last ++ behind
  pub cursor : last.stamp ≡ v.cursor
  pub late : QueuedAfter v.cursor v.tables
  pub opened : unclosed (Some []) (through done last) ≡ Some (reads ++ start.reads)
  pub began : Began start (through done last)
  pub unfinished : Unfinished v.frames v.tables.trace.nodes

-- the state of the machine: its plain words are those that can be read
abbrev pub state_at : Code → List Block → View → Store → List ℕ → State
state_at code inputs v store chosen = record {
  store = store;
  plain = words_of code inputs v.heap;
  number = length chosen;
  work = v.spent;
}

-- The machine, by its state, has come from its start and has written the items of the nodes in front, whatever the
-- names of the new blocks to come. The items mention blocks that they allocate before; these are those that the
-- machine knows, and at their places its store has what the lists of writes say.
pub record CourseNow (code : Code) (inputs : List Block) (start : Start) (v : View)
    (front : List Entry) (items : List Item) (machine : State → Machine) : Type 0 where
  pub store : Store
  pub made : List ℕ
  pub out : List Item
  pub written : items ≡ items_before start ++ out
  pub mentions : KnownItems (length inputs) [] items (known_after [] items)
  pub comes : ComesBy code start.machine (machine (state_at code inputs v store (start.chosen ++ made)))
      (start.chosen ++ made) out
  pub knows : Knows code (length inputs) start.old (known_after [] items)
      (machine (state_at code inputs v store (start.chosen ++ made)))
  pub same : (p : Place) → KnownBlock (length inputs) (known_after [] items) p.block
      → store p ≡ contents_after (base_in v.tables.mods) front p
  pub given : Given start.first start.numbers (start.chosen ++ made) v.heap

-- A unit runs with the nodes that are left over after the cursor, up to the limit; where there is no limit nothing is
-- left over.
pub record RunningNow (code : Code) (inputs : List Block) (start : Start) (st : Stack) (v : View) : Type 0 where
  pub reads : List ℕ
  pub left : Grove
  pub waits : List Wait
  pub tail : List Entry
  pub placed : Placed start v reads (entries left ++ tail)
  pub tails : Tails start.limit start.beyond v.limit v.frames waits reads tail
  pub bare : v.limit ≡ None → left ≡ Bare
  pub bounds : Bounds start.limit start.beyond
  pub blocks : HasBlocks code inputs v.heap v.tables
  pub course : CourseNow code inputs start v (through placed.done placed.last)
      (forest_of (through placed.done placed.last))
      (λ s. running_at s st waits (forest_of (entries left ++ tail)))

-- Kept nodes are passed up to the limit. The steps on the node at the cursor are not written yet.
pub record PassingNow (code : Code) (inputs : List Block) (start : Start) (until : Stamp) (v : View) : Type 0 where
  pub reads : List ℕ
  pub waits : List Wait
  pub behind : List Entry
  pub limit : v.limit ≡ Some until
  pub placed : Placed start v reads behind
  pub passes : Passes start.limit start.beyond until v.frames waits reads behind
  pub bounds : Bounds start.limit start.beyond
  pub blocks : HasBlocks code inputs v.heap v.tables
  pub course : CourseNow code inputs start v (through placed.done placed.last)
      (forest_of placed.done ++ item_of placed.last.node)
      (λ s. fixing_at s waits (ticks placed.last.steps ++ forest_of behind))
