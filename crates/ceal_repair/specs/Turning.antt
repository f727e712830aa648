-- A run that is repaired turn by turn, each turn the first stale read with what is inside it.
use Rattle.std.specs.Prelude.{◌≡◌, ℕ, zero, suc, true, Some, List, [], ◌∷◌, ◌++◌, length}
use Rattle.ceal_base.specs.Block.{Block}
use Rattle.ceal_base.specs.Trace.{Trace, flat, blocks_of}
use Rattle.ceal_base.specs.declared.forest.UnitId.{UnitId}
use Rattle.ceal_base.specs.declared.word.BlockId.TheVariants.{Core}
use Rattle.ceal_base.specs.declared.word.Place.{Place}
use Rattle.ceal_base.specs.declared.word.Word.{Word}
use Rattle.ceal_code.specs.Fitting.{Fits}
use Rattle.ceal_code.specs.Program.{Code}
use Rattle.ceal_code.specs.Replay.{count, core_numbers}
use Rattle.ceal_heap.specs.Heap.{plain_of}
use Rattle.ceal_order.specs.Stamps.{is_in}
use Rattle.ceal_repair.specs.Blocks.{HasBlocks, Given}
use Rattle.ceal_repair.specs.Entries.{stamp_of_number, entry, entries, end_entry}
use Rattle.ceal_repair.specs.Moment.{Start}
use Rattle.ceal_repair.specs.Repairs.{Runs}
use Rattle.ceal_repair.specs.declared.repair.Repair.{Repair as RepairInCode}
use Rattle.ceal_repair.specs.declared.running.Running.{Running}
use Rattle.ceal_repair.specs.Kept.{Kept, IsStale, Records, QueuedAfter, contents_at}
use Rattle.ceal_theory.specs.Chosen.{Continues}
use Rattle.ceal_theory.specs.Groves.{Grove, stepped, trace_in}
use Rattle.ceal_theory.specs.Repair.{Single}
use Rattle.ceal_theory.specs.SliceLaws.{unit_alone, Turns}
use Rattle.ceal_theory.specs.Slices.{Repair, beginning, starting, RepairHolds}
use Rattle.ceal_theory.specs.Walk.{store_after, AgreesAll}
use Rattle.ceal_trace.specs.Items.{forest_of, unclosed, Nests}
use Rattle.ceal_trace.specs.Nodes.{Entry, stamps_in, node_at, with_value}
use Rattle.ceal_trace.specs.declared.node.Node.TheVariants.{Read}

-- a finished read of nodes: those before it, those inside it, its end, and those after that
pub record ReadAt (nodes : List Entry) : Type 0 where
  pub before : List Entry
  pub read : ℕ
  pub place : Place
  pub value : Word
  pub unit : UnitId
  pub var : ℕ
  pub args : List Word
  pub steps : ℕ
  pub inside : Grove
  pub end : ℕ
  pub end_steps : ℕ
  pub behind : List Entry
  pub whole : nodes ≡ before
      ++ entry read (Read place value unit var args) steps ∷ (entries inside ++ end_entry end read end_steps ∷ behind)

-- A turn begins: the unit of a read runs on this content, with what is inside the read left over.
-- These blocks were there at first, these numbers were given out before, these blocks are known,
-- and these reads are open inside the read.
abbrev pub turn_start : {nodes : List Entry}
    → Code → List Block → Repair → (first : List ℕ) → ℕ → (chosen old reads : List ℕ) → ReadAt nodes → Word → Start
turn_start code inputs r first numbers chosen old reads a now = record {
  machine =
      unit_alone code inputs r (forest_of a.before) a.place a.unit a.var a.args (stepped a.steps (trace_in a.inside));
  first = first;
  numbers = numbers;
  chosen = chosen;
  old = old;
  before = a.before;
  stamp = a.read;
  node = Read a.place now a.unit a.var a.args;
  reads = reads;
  limit = Some (stamp_of_number a.end);
  beyond = end_entry a.end a.read a.end_steps ∷ a.behind;
}

-- The nodes, the queue and the heap of a run stand for a repair in progress.
pub record StandsFor (code : Code) (inputs : List Block) (f : ℕ) (args : List Word)
    (r : Repair) (run : Running) : Type 0 where
  pub kept : Kept run.tables
  pub nests : Nests run.tables.trace.nodes
  pub items : forest_of run.tables.trace.nodes ≡ flat r.items
  pub known : (b : ℕ) → r.known (Core b) ≡ plain_of run.heap (Core b)
  pub blocks : HasBlocks code inputs run.heap run.tables
  pub spent : r.spent ≡ run.spent
  pub names : ℕ → ℕ
  pub sound : RepairHolds code names inputs f args r

-- A repair from which turns are made, the numbers of the blocks that it knows, how many numbers had been given out
-- then, and how many turns were made since.
pub record Since : Type 0 where
  pub repair : Repair
  pub first : List ℕ
  pub numbers : ℕ
  pub turns : ℕ

-- the sum of two numbers of turns, by recursion
abbrev pub turns_more : ℕ → ℕ → ℕ
turns_more zero n = n
turns_more (suc k) n = suc (turns_more k n)

-- after n more turns
abbrev pub later : ℕ → Since → Since
later n o = record { repair = o.repair; first = o.first; numbers = o.numbers; turns = turns_more n o.turns }

-- the repair of a trace, from its beginning, when `numbers` numbers had been given out
abbrev pub since_begun : Code → List Block → Trace → ℕ → Since
since_begun code inputs l numbers = record {
  repair = beginning code inputs l 0;
  first = core_numbers (blocks_of l);
  numbers = numbers;
  turns = 0;
}

-- none of these numbers is a name
abbrev pub NamesOff : (ℕ → ℕ) → List ℕ → Type 0
NamesOff names first = (k : ℕ) → count (names k) first ≡ 0

-- It is a repair of a call that fits, whatever the names of new blocks, if none is that of a known one.
pub record IsOrigin (code : Code) (inputs : List Block) (f : ℕ) (args : List Word) (o : Since) : Type 0 where
  pub fits : Fits code inputs f args
  pub sound : (names : ℕ → ℕ) → Single names → NamesOff names o.first → RepairHolds code names inputs f args o.repair

-- A repair that has come so far by turns, whatever the names of the new blocks to come.
pub record TurnedSoFar (code : Code) (inputs : List Block) (f : ℕ) (args : List Word)
    (o : Since) (run : Running) : Type 0 where
  pub repair : Repair
  pub stands : StandsFor code inputs f args repair run
  pub chosen : List ℕ
  pub number : repair.number ≡ length chosen
  pub given : Given o.first o.numbers chosen run.heap
  pub history : (names : ℕ → ℕ) → Continues chosen names → Turns code names inputs o.turns o.repair repair

-- The first stale read of a run that has come so far was found, and has the content of its moment since then; what is
-- queued is after it, and all else is as it was.
pub record FoundStale (code : Code) (inputs : List Block) (f : ℕ) (args : List Word)
    (o : Since) (read : ℕ) (run : Running) : Type 0 where
  pub called : IsOrigin code inputs f args o
  pub before : Running
  pub so_far : TurnedSoFar code inputs f args o before
  pub stale : IsStale read before.tables
  pub place : Place
  pub value : Word
  pub is_read : Records place value (node_at read before.tables.trace.nodes)
  pub nodes : run.tables.trace.nodes ≡ with_value read (contents_at read before.tables place) before.tables.trace.nodes
  pub queued : QueuedAfter read run.tables
  pub cells : run.tables.mods.cells ≡ before.tables.mods.cells
  pub heap : run.heap ≡ before.heap
  pub spent : run.spent ≡ before.spent
  pub kept : Kept run.tables

-- A turn has begun at the first stale read of a run that has come so far: the items before the read agree with
-- the store, its own content does not.
pub record TurnBegan (code : Code) (inputs : List Block) (f : ℕ) (args : List Word)
    (o : Since) (before : Running) (start : Start) : Type 0 where
  pub called : IsOrigin code inputs f args o
  pub so_far : TurnedSoFar code inputs f args o before
  pub spot : ReadAt before.tables.trace.nodes
  pub found : IsStale spot.read before.tables
  pub agrees : AgreesAll code (starting code inputs so_far.repair.known) (forest_of spot.before)
  pub stale :
      ¬ (store_after code (starting code inputs so_far.repair.known) (forest_of spot.before) spot.place ≡ spot.value)
  pub reads : List ℕ
  pub opened : unclosed (Some []) spot.before ≡ Some reads
  pub is : start ≡ turn_start code inputs so_far.repair o.first o.numbers so_far.chosen so_far.stands.sound.blocks
      (spot.read ∷ reads) spot
      (store_after code (starting code inputs so_far.repair.known) (forest_of spot.before) spot.place)

-- the unit of that read runs
pub record TurnRuns (code : Code) (inputs : List Block) (f : ℕ) (args : List Word)
    (o : Since) (before : Running) (r : RepairInCode) : Type 0 where
  pub start : Start
  pub began : TurnBegan code inputs f args o before start
  pub runs : Runs start r

-- The turn has ended: the run has come further. The nodes before the read and from its end on are as they were, and a
-- read that is stale is after those inside it.
pub record TurnEnded (code : Code) (inputs : List Block) (f : ℕ) (args : List Word)
    (o : Since) (start : Start) (run : Running) : Type 0 where
  pub so_far : TurnedSoFar code inputs f args (later 1 o) run
  pub steps : ℕ
  pub inside : Grove
  pub nodes : run.tables.trace.nodes
      ≡ start.before ++ entry start.stamp start.node steps ∷ (entries inside ++ start.beyond)
  pub ahead : (r : ℕ) → IsStale r run.tables → is_in r (stamps_in start.beyond) ≡ true
