-- How an engine keeps what it has: the call with room for its arguments, and the tables and the heap of the run.
use Rattle.std.specs.Prelude.{◌≡◌, ℕ, zero, suc, ◌+◌, ◌≤◌, ◌<◌, ◌^◌, true, Option, Some, None, IfSome, is_some, List}
use Rattle.std.specs.Prelude.{[], ◌∷◌, length, slice_get}
use Rattle.std.specs.Global.{Vec}
use Rattle.std.specs.Option.{option_map}
use Rattle.std.specs.Vec.{vec_capacity}
use Rattle.ceal_base.specs.Block.{Block}
use Rattle.ceal_base.specs.Fitting.{inputs_fit}
use Rattle.ceal_base.specs.Trace.{Trace, steps_in}
use Rattle.ceal_base.specs.declared.call.Call.{Call}
use Rattle.ceal_base.specs.declared.forest.Item.{Item}
use Rattle.ceal_base.specs.declared.word.BlockId.TheVariants.{Core}
use Rattle.ceal_base.specs.declared.word.Place.{Place}
use Rattle.ceal_base.specs.declared.word.Word.{Word}
use Rattle.ceal_code.specs.Fitting.{Fits}
use Rattle.ceal_code.specs.Program.{Code}
use Rattle.ceal_code.specs.Replay.{Store as CellContents, IsHonest, block_after, inputs_after}
use Rattle.ceal_code.specs.Valid.{valid}
use Rattle.ceal_code.specs.declared.function.FunctionCode.{FunctionCode}
use Rattle.ceal_code.specs.declared.function.FunctionCode.TheVariants.{Core as CoreFunction, Init as InitFunction}
use Rattle.ceal_engine.specs.Engine.{InLimits, Store, EngineState}
use Rattle.ceal_engine.specs.declared.phase.Phase.{Phase}
use Rattle.ceal_engine.specs.declared.phase.Phase.TheVariants.{New, Finished, Pending, Partial, Dropped}
use Rattle.ceal_engine.specs.declared.run.Run.{Run}
use Rattle.ceal_engine.specs.declared.run.Run.TheVariants as its
use Rattle.ceal_engine.specs.declared.run.Stage.{Stage}
use Rattle.ceal_engine.specs.declared.run.Stage.TheVariants as stage
use Rattle.ceal_heap.specs.Heap.{Contents, plain_of, next, live_count}
use Rattle.ceal_mods.specs.Cell.{latest_value}
use Rattle.ceal_mods.specs.Mods.{Contents as Mods, cell_of}
use Rattle.ceal_repair.specs.Answers.{IsKeptRun}
use Rattle.ceal_repair.specs.Looks.{write_count}
use Rattle.ceal_repair.specs.Slicing.{IsPartRun}
use Rattle.ceal_repair.specs.declared.running.Running.{Running}
use Rattle.ceal_theory.specs.Carried.{Carried}
use Rattle.ceal_theory.specs.Repair.{own}
use Rattle.ceal_theory.specs.Slices.{Repair, RepairHolds}
use Rattle.ceal_trace.specs.Items.{forest_of}
use Rattle.ceal_trace.specs.Nodes.{Timeline}

-- a call, and room for the given number of arguments
pub record Kept : Type 0 where
  pub call : Option Call
  pub room : ℕ

-- a call as the engine keeps it: what it is, and the room of its arguments
abbrev pub kept_of : Option ℕ → Vec Word → Kept
kept_of function args = record {
  call = option_map (λ f. record { function = f; args = args.items }) function;
  room = vec_capacity args;
}

-- where nothing was called there are no arguments
abbrev pub EmptyWithout : Option ℕ → Vec Word → Type 0
EmptyWithout None args = args.items ≡ []
EmptyWithout (Some f) args = args.items ≡ args.items

-- how many arguments a function takes that may be called
abbrev pub argument_count : Option FunctionCode → ℕ
argument_count None = 0
argument_count (Some (CoreFunction name entry params)) = length params
argument_count (Some (InitFunction name s params body)) = 0

-- the phase of a run, by how far it is
abbrev pub phase_at : Stage → Phase
phase_at stage.Finished = Finished
phase_at stage.Pending = Pending
phase_at stage.Partial = Partial

-- the phase of an engine that has this run
abbrev pub phase_of : Run → Phase
phase_of its.New = New
phase_of (its.Kept run s) = phase_at s
phase_of its.Dropped = Dropped

-- the run, if there is one
abbrev pub running_in : Run → Option Running
running_in its.New = None
running_in (its.Kept run s) = Some run
running_in its.Dropped = None

-- what each modifiable holds at the end of a run
abbrev pub contents : Mods → CellContents
contents mods = λ p. latest_value (cell_of mods p)

-- the core blocks of a heap from number `n` on, `k` of them, each modifiable with its content
abbrev pub cores_from : Code → CellContents → Contents → ℕ → ℕ → List (Option Block)
cores_from code s heap n zero = []
cores_from code s heap n (suc k) = block_after code (plain_of heap) s (Core n) ∷ cores_from code s heap (n + 1) k

-- the memory at the end of a run; without a run only the inputs with their bases
abbrev pub store_in : Code → List Block → Option Running → Store
store_in code inputs None = record { inputs = inputs; cores = [] }
store_in code inputs (Some run) = record {
  inputs = inputs_after code (contents run.tables.mods) 0 inputs;
  cores = cores_from code (contents run.tables.mods) run.heap 0 (next run.heap);
}

-- the items of a run
abbrev pub forest_in : Option Running → Option (List Item)
forest_in None = None
forest_in (Some run) = Some (forest_of run.tables.trace.nodes)

-- its nodes
abbrev pub timeline_in : Option Running → Option Timeline
timeline_in None = None
timeline_in (Some run) = Some run.tables.trace

-- its core blocks
abbrev pub heap_in : Option Running → Option Contents
heap_in None = None
heap_in (Some run) = Some run.heap

-- its steps
abbrev pub steps_kept : Option Running → ℕ
steps_kept None = 0
steps_kept (Some run) = steps_in (forest_of run.tables.trace.nodes)

-- how many core blocks it has
abbrev pub live_kept : Option Running → ℕ
live_kept None = 0
live_kept (Some run) = live_count run.heap

-- how many of its steps were re-executed
abbrev pub work_kept : Option Running → ℕ
work_kept None = 0
work_kept (Some run) = run.spent

-- how many contents were looked at, and how many differed from what a read had recorded
abbrev pub looked_kept : Option Running → ℕ
looked_kept None = 0
looked_kept (Some run) = run.tables.mods.looked

abbrev pub differed_kept : Option Running → ℕ
differed_kept None = 0
differed_kept (Some run) = run.tables.mods.differed

-- how many reads are queued
abbrev pub queued_kept : Option Running → ℕ
queued_kept None = 0
queued_kept (Some run) = length run.tables.stale.stamps

-- how many writes the nodes have
abbrev pub writes_kept : Option Running → ℕ
writes_kept None = 0
writes_kept (Some run) = write_count run.tables.trace.nodes

-- what the places held at the end when they were marked
abbrev pub marked_kept : Option Running → Option (List (Place × Word))
marked_kept None = None
marked_kept (Some run) = run.tables.mods.marked

-- what contracts see of an engine of these parts
abbrev pub state_of : Code → ℕ → List Block → Option Call → Run → EngineState
state_of code fuel inputs call run = record {
  code = code;
  fuel = fuel;
  inputs = inputs;
  call = call;
  phase = phase_of run;
  forest = forest_in (running_in run);
  timeline = timeline_in (running_in run);
  heap = heap_in (running_in run);
  memory = store_in code inputs (running_in run);
  steps = steps_kept (running_in run);
  live = live_kept (running_in run);
  work = work_kept (running_in run);
  looked = looked_kept (running_in run);
  differed = differed_kept (running_in run);
  queued = queued_kept (running_in run);
  writes = writes_kept (running_in run);
  marked = marked_kept (running_in run);
}

-- The run's nodes stand for a trace of the call that is honest on the inputs, and no read is queued.
pub record IsUpToDate (code : Code) (fuel : ℕ) (inputs : List Block) (call : Call) (run : Running) : Type 0 where
  pub trace : Trace
  pub of : IsKeptRun code inputs call.function call.args fuel trace run
  pub honest : IsHonest code inputs trace
  pub idle : run.tables.stale.stamps ≡ []

-- The run's nodes stand for a repair of the call that is under way; it is one with new blocks numbered in their
-- order, but that the new blocks have the numbers that the heap gave to them.
pub record IsPartKept (code : Code) (fuel : ℕ) (inputs : List Block) (call : Call) (run : Running) : Type 0 where
  pub repair : Repair
  pub of : IsPartRun code inputs call.function call.args fuel repair run
  pub next : ℕ
  pub ordered : Repair
  pub sound : RepairHolds code own inputs call.function call.args ordered
  pub carried : Carried code inputs next ordered repair

-- what is kept of a run of the call, by how far it is
abbrev pub KeepsRun : Code → ℕ → List Block → Call → Running → Stage → Type 0
KeepsRun code fuel inputs call run stage.Finished = IsUpToDate code fuel inputs call run
KeepsRun code fuel inputs call run stage.Pending =
    (l : Trace) × IsKeptRun code inputs call.function call.args fuel l run
KeepsRun code fuel inputs call run stage.Partial = IsPartKept code fuel inputs call run

-- what an engine keeps: nothing was called, there is a run of the call, or there is only the call
abbrev pub Keeps : Code → ℕ → List Block → Run → Option Call → Type 0
Keeps code fuel inputs its.New call = call ≡ None
Keeps code fuel inputs (its.Kept run s) None = ⊥
Keeps code fuel inputs (its.Kept run s) (Some call) = KeepsRun code fuel inputs call run s
Keeps code fuel inputs its.Dropped call = is_some call ≡ true

-- what is true of every engine inside
pub record EngineInvariant (code : Code) (fuel : ℕ) (inputs : List Block) (call : Kept) (run : Run) : Type 0 where
  pub is_valid : valid code ≡ true
  pub limits : InLimits fuel
  pub fit : inputs_fit code.structs inputs ≡ true
  pub count : length inputs < 2 ^ 32
  pub calls : IfSome call.call (λ call. Fits code inputs call.function call.args)
  pub room : (f : ℕ) → argument_count (slice_get code.functions f) ≤ call.room
  pub keeps : Keeps code fuel inputs run call.call
