-- What is true of the tables of a trace.
use Rattle.std.specs.Prelude.{◌≡◌, ◌≢◌, ◌<◌, ◌≤◌, ℕ, List, true, false, Option, Some}
use Rattle.ceal_base.specs.declared.forest.UnitId.{UnitId}
use Rattle.ceal_base.specs.declared.word.Place.{Place}
use Rattle.ceal_base.specs.declared.word.Word.{Word}
use Rattle.ceal_code.specs.Replay.{Store}
use Rattle.ceal_memo.specs.Memo.{Follows as Memo_follows}
use Rattle.ceal_mods.specs.Cell.{Sees}
use Rattle.ceal_mods.specs.Mods.{Contents, cell_of, Follows as Mods_follow}
use Rattle.ceal_mods.specs.declared.cell.Cell.{Cell}
use Rattle.ceal_order.specs.Stamps.{is_in, place}
use Rattle.ceal_queue.specs.Queue.{Follows as Queue_follows}
use Rattle.ceal_repair.specs.Chain.{Chained}
use Rattle.ceal_repair.specs.Covered.{Queue, queue_of, Covers, contents_after}
use Rattle.ceal_repair.specs.Lists.{IsTabled, IsKeyed, before}
use Rattle.ceal_repair.specs.declared.tables.Tables.{Tables}
use Rattle.ceal_trace.specs.Nodes.{Entry, stamps_in, node_at, position, is_read, IsTrace, NoLooseEnd}
use Rattle.ceal_trace.specs.declared.node.Node.{Node}
use Rattle.ceal_trace.specs.declared.node.Node.TheVariants.{Read}

-- what each place holds before any write
abbrev pub base_in : Contents → Store
base_in mods = λ p. (cell_of mods p).base

-- what each place holds at the moment of a node
abbrev pub contents_at : ℕ → Tables → Store
contents_at s t = contents_after (base_in t.mods) (before s t.trace.nodes)

-- these stamps are those of reads
abbrev pub AreReads : List Entry → List ℕ → Type 0
AreReads nodes stamps = (s : ℕ) → is_in s stamps ≡ true → is_read (node_at s nodes) ≡ true

-- the nodes are those of a trace, the modifiables and the memo have theirs, and what is queued are reads of theirs
pub record InStep (t : Tables) : Type 0 where
  pub whole : IsTrace t.trace
  pub closed : NoLooseEnd t.trace.nodes
  pub tabled : IsTabled t.trace.nodes t.mods
  pub keyed : IsKeyed t.trace.nodes t.memo
  pub queued : AreReads t.trace.nodes t.stale.stamps
  pub mods : Mods_follow (stamps_in t.trace.nodes) t.mods
  pub memo : Memo_follows (stamps_in t.trace.nodes) t.memo
  pub stale : Queue_follows (stamps_in t.trace.nodes) t.stale

-- each read that is not in this queue records what was recorded last of its place: its base, the last write or read
abbrev pub ChainedBy : Queue → Tables → Type 0
ChainedBy q t = Chained q (base_in t.mods) t.trace.nodes

-- each read that does not have the content of its moment is covered by this queue
abbrev pub CoveredBy : Queue → Tables → Type 0
CoveredBy q t = Covers q (base_in t.mods) (λ p. false) t.trace.nodes

-- the tables are in step, and each read that is not queued records what was recorded last of its place
pub record Kept (t : Tables) : Type 0 where
  pub step : InStep t
  pub chained : ChainedBy (queue_of t.stale.stamps) t

-- what is queued is after a node
abbrev pub QueuedAfter : ℕ → Tables → Type 0
QueuedAfter s t = (r : ℕ) → is_in r t.stale.stamps ≡ true → position s t.trace.nodes < position r t.trace.nodes

-- what is queued is not before a node
abbrev pub QueuedFrom : ℕ → Tables → Type 0
QueuedFrom s t = (r : ℕ) → is_in r t.stale.stamps ≡ true → position s t.trace.nodes ≤ position r t.trace.nodes

-- a node that records a read of this value
pub record Records (p : Place) (v : Word) (node : Option Node) : Type 0 where
  pub unit : UnitId
  pub var : ℕ
  pub args : List Word
  pub is : node ≡ Some (Read p v unit var args)

-- a read does not have the content of its moment
pub record IsStale (s : ℕ) (t : Tables) : Type 0 where
  pub place : Place
  pub value : Word
  pub read : Records place value (node_at s t.trace.nodes)
  pub differs : value ≢ contents_at s t place

-- a read has the content of its moment
abbrev pub IsHonestRecord : ℕ → Tables → Type 0
IsHonestRecord s t = (p : Place) (v : Word) → Records p v (node_at s t.trace.nodes) → v ≡ contents_at s t p

-- the first read that sees the change after a stamp is queued
abbrev pub IsAwake : List ℕ → Cell → ℕ → List ℕ → Type 0
IsAwake order cell after queue = (r : ℕ) → Sees order cell after r
    → ((other : ℕ) → Sees order cell after other → place r order ≤ place other order)
    → is_in r queue ≡ true
