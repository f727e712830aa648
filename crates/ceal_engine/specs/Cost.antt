-- How many contents an engine looks at, and how many nodes of its trace it touches. All is paid by the edits, by the
-- steps that are re-executed, by the reads that have another value then and by the writes that the trace loses,
-- whatever the size of the trace.
use Rattle.std.specs.Prelude.{◌≡◌, ◌⊎◌, ◌≤◌, ◌<◌, ◌+◌, ◌-◌, ◌*◌, ◌^◌, ℕ, Option, None, Some, List, [], length}
use Rattle.std.specs.Option.{IsSomeAnd}
use Rattle.ceal_engine.specs.Engine.{EngineState, IsWhole, trace}
use Rattle.ceal_engine.specs.Partial.{spent_in}
use Rattle.ceal_engine.specs.Repaired.{IsFirst}
use Rattle.ceal_engine.specs.declared.phase.Phase.TheVariants.{Dropped}
use Rattle.ceal_order.specs.Stamps.{room_beyond}
use Rattle.ceal_repair.specs.Distance.{Reuses, revalued_reads}
use Rattle.ceal_repair.specs.Looks.{raised}
use Rattle.ceal_trace.specs.Nodes.{Entry, Timeline}

-- what an engine has looked at, and what it owes: two looks for each queued read, and three for each write of the trace
abbrev pub due : EngineState → ℕ
due e = e.looked + 2 * e.queued + 3 * e.writes

-- the nodes of a trace
abbrev pub nodes_of : Option Timeline → List Entry
nodes_of None = []
nodes_of (Some t) = t.nodes

-- how many reads of the nodes of an engine have another value than the same reads of another engine
abbrev pub revalued : EngineState → EngineState → ℕ
revalued e n = revalued_reads (nodes_of e.timeline) (nodes_of n.timeline)

-- how often nodes were touched since the run began, and how many there are
abbrev pub touched_of : Option Timeline → ℕ
touched_of None = 0
touched_of (Some t) = t.touched + length t.nodes

-- how often nodes were touched, and whether that is counted still: it stays at the end of its type
abbrev pub touches_of : Option Timeline → ℕ
touches_of None = 0
touches_of (Some t) = t.touched

abbrev pub IsCounted : EngineState → Type 0
IsCounted e = touches_of e.timeline < 2 ^ 64 - 1

-- for how many nodes there is room, those counted that there are
abbrev pub room_of : Option Timeline → ℕ
room_of None = 0
room_of (Some t) = length t.nodes + t.spare

-- an edit looks at nothing and queues one read at most; no node is touched
pub record CostOfEdit (e n : EngineState) : Type 0 where
  pub looked : n.looked ≡ e.looked
  pub queued : n.queued ≤ e.queued + 1
  pub writes : n.writes ≡ e.writes
  pub differed : n.differed ≡ e.differed
  pub nodes : n.timeline ≡ e.timeline
  pub spent : spent_in n.phase n.work ≡ spent_in e.phase e.work

-- a new input does not even queue one
pub record CostOfInput (e n : EngineState) : Type 0 where
  pub looked : n.looked ≡ e.looked
  pub queued : n.queued ≡ e.queued
  pub writes : n.writes ≡ e.writes
  pub differed : n.differed ≡ e.differed
  pub nodes : n.timeline ≡ e.timeline

-- A repair. Of the nodes `fresh` are new, `stale` are reads that the old nodes have at their stamps with another value,
-- and each other one is an old node at its stamp. Each step that was re-executed pays for two new nodes, for five looks
-- and for five touches, and each of those reads for two looks and two touches. No count falls. There is room for no
-- more nodes than before, or for twice the nodes before, what those steps and reads pay for, and few beyond.
pub record CostOfRepair (e n : EngineState) : Type 0 where
  pub looked : e.looked ≤ n.looked
  pub differed : e.differed ≤ n.differed
  pub fresh : ℕ
  pub stale : ℕ
  pub reuses : Reuses (nodes_of e.timeline) (nodes_of n.timeline) fresh stale
  pub few : fresh + 2 * spent_in e.phase e.work ≤ 2 * n.work
  pub counted : n.differed ≡ raised stale e.differed
  pub paid : due n + 5 * spent_in e.phase e.work ≤ due e + 5 * n.work + 2 * stale
  pub touched : touched_of n.timeline + 5 * spent_in e.phase e.work ≤ touched_of e.timeline + 5 * n.work + 2 * stale
  pub touches : touches_of e.timeline ≤ touches_of n.timeline
  pub room : IsCounted n → (room_of n.timeline ≤ room_of e.timeline)
      ⊎ (room_of n.timeline + 5 * spent_in e.phase e.work
      ≤ 2 * length (nodes_of e.timeline) + 5 * n.work + 2 * stale + room_beyond)

-- a repair in which no read is stale: each queued read is looked at once at most, and none is found stale
pub record LooksAtQueued (e n : EngineState) : Type 0 where
  pub looked : n.looked + n.queued ≤ e.looked + e.queued
  pub differed : n.differed ≡ e.differed

-- A run from nothing: its steps pay for what it looks at and touches, and for the room for nodes but for some beyond.
-- No read is found stale. The root is a node.
pub record CostOfRun (e : EngineState) : Type 0 where
  pub paid : due e ≤ 5 * e.work
  pub touched : touched_of e.timeline ≤ 5 * e.work + 1
  pub differed : e.differed ≡ 0
  pub room : IsCounted e → room_of e.timeline ≤ 5 * e.work + 2 + room_beyond

-- From one engine to another by edits, new inputs and repairs, whole or in parts, in any order. The numbers are that of
-- the edits, a bound of the steps that were re-executed, and that of the reads that got another value, which the nodes
-- before and after each repair show.
pub data Updates : EngineState → EngineState → ℕ → ℕ → ℕ → Type 0 where
  none : {e : EngineState} → Updates e e 0 0 0
  edit : {s e n : EngineState} {edits steps stale : ℕ} → Updates s e edits steps stale → CostOfEdit e n
      → Updates s n (edits + 1) steps stale
  input : {s e n : EngineState} {edits steps stale : ℕ} → Updates s e edits steps stale → CostOfInput e n
      → Updates s n edits steps stale
  repair : {s e n : EngineState} {edits steps stale : ℕ} → Updates s e edits steps stale → CostOfRepair e n
      → (more : ℕ) → n.work ≤ spent_in e.phase e.work + more
      → Updates s n edits (steps + more) (stale + revalued e n)

-- Edits, steps that were re-executed and reads that got another value pay for what was done from one engine to another.
-- At most five contents were looked at for each of them, and three for each write that the trace has fewer. At most
-- five nodes were touched for each such step and read, and one for each node that the trace has fewer. Where nothing
-- was queued before, the size of the trace does not matter.
pub record IsPaid (s n : EngineState) (edits steps stale : ℕ) : Type 0 where
  pub looks : n.looked + 2 * n.queued + 3 * n.writes
      ≤ s.looked + 2 * s.queued + 3 * s.writes + 5 * (edits + steps + stale)
  pub touches : touched_of n.timeline ≤ touched_of s.timeline + 5 * (steps + stale)

-- all of them together are paid
abbrev pub CostLaw : Type 0
CostLaw = (s n : EngineState) (edits steps stale : ℕ) → Updates s n edits steps stale → IsPaid s n edits steps stale

-- What a call costs: it leaves the engine as it was, it edits an input or adds one, it repairs a run, whole or in part,
-- or it runs the call from nothing, where there was no whole run. What was done to a run that is given up is not
-- counted.
pub data CostOfCall : EngineState → EngineState → Type 0 where
  same : {e : EngineState} → CostOfCall e e
  edit : {e n : EngineState} → CostOfEdit e n → CostOfCall e n
  input : {e n : EngineState} → CostOfInput e n → CostOfCall e n
  repair : {e n : EngineState} → CostOfRepair e n → CostOfCall e n
  given_up : {e n : EngineState} → n.phase ≡ Dropped → CostOfCall e n
  run : {e n : EngineState} → ¬ IsWhole e.phase → IsSomeAnd (trace n) (IsFirst n) → CostOfRun n → CostOfCall e n
