-- What an engine has, and when it is the run from scratch on the present inputs.
use Rattle.std.specs.Option.{option_map}
use Rattle.std.specs.Prelude.{◌≡◌, ℕ, ◌<◌, ◌≤◌, ◌*◌, ◌&&◌, Bool, true, false, Option, Some, None, IfSome, IsSome}
use Rattle.std.specs.Prelude.{is_some, Result, Ok, Err, List, length, slice_get, ⊤}
use Rattle.ceal_base.specs.Block.{Block, Blocks, written_at, alone}
use Rattle.ceal_base.specs.Finished.{Finished}
use Rattle.ceal_base.specs.Fitting.{kind_at, fits_field, memory_fits, inputs_fit}
use Rattle.ceal_base.specs.Same.{Same, index_of}
use Rattle.ceal_base.specs.Trace.{Trace, flat, trace_of, steps_of, blocks_of}
use Rattle.ceal_base.specs.declared.forest.Item.{Item}
use Rattle.ceal_base.specs.declared.kind.FieldKind.{FieldKind}
use Rattle.ceal_base.specs.declared.kind.FieldKind.TheVariants.{Plain}
use Rattle.ceal_base.specs.declared.typed.StructInfo.{StructInfo}
use Rattle.ceal_base.specs.declared.word.BlockId.{BlockId}
use Rattle.ceal_base.specs.declared.word.BlockId.TheVariants.{Input, Core}
use Rattle.ceal_base.specs.declared.word.Place.{Place}
use Rattle.ceal_base.specs.declared.word.Word.{Word}
use Rattle.ceal_base.specs.declared.call.Call.{Call}
use Rattle.ceal_code.specs.After.{memory_after}
use Rattle.ceal_code.specs.Fitting.{Fits}
use Rattle.ceal_code.specs.Fresh.{fresh}
use Rattle.ceal_code.specs.Program.{Code}
use Rattle.ceal_code.specs.Replay.{Replays, IsHonest, core_numbers, plain_of}
use Rattle.ceal_code.specs.Valid.{valid}
use Rattle.ceal_code.specs.Value.{is_cell}
use Rattle.ceal_engine.specs.declared.phase.Phase.{Phase}
use Rattle.ceal_engine.specs.declared.phase.Phase.TheVariants.{New, Finished as IsFinished, Pending, Partial, Dropped}
use Rattle.ceal_engine.specs.declared.run_error.RunError.{RunError}
use Rattle.ceal_engine.specs.declared.run_error.RunError.TheVariants.{Memory, OutOfFuel}
use Rattle.ceal_heap.specs.Heap.{Contents, Known, Revoked, HasSlots, next, standing, plain_of as heap_words}
use Rattle.ceal_repair.specs.Blocks.{Lives}
use Rattle.ceal_theory.specs.Adjust.{Above}
use Rattle.ceal_trace.specs.Items.{Nests, forest_of}
use Rattle.ceal_trace.specs.Nodes.{Timeline}

-- how many steps a run may be allowed to take
abbrev pub LARGEST_FUEL : ℕ
LARGEST_FUEL = 4194304

-- one step at least, and no more than the largest fuel
abbrev pub InLimits : ℕ → Type 0
InLimits fuel = (1 ≤ fuel) × (fuel ≤ LARGEST_FUEL)

-- the memory of a finished run: its input blocks, and its core blocks by their numbers, which may be any
pub record Store : Type 0 where
  pub inputs : List Block
  pub cores : List (Option Block)

-- the block at a number: none where the number is not there, or has no block
abbrev pub at_number : Option (Option Block) → Option Block
at_number None = None
at_number (Some block) = block

-- the core block of this number
abbrev pub core : Store → ℕ → Option Block
core m n = at_number (slice_get m.cores n)

-- the block of a store with this name
abbrev pub stored_at : Store → BlockId → Option Block
stored_at m (Input n) = slice_get m.inputs n
stored_at m (Core n) = core m n

-- `inputs` are the input blocks with their present bases, `forest` has the flat items of the last run's
-- trace, `timeline` its nodes and `heap` its core blocks, in Finished and Pending, and `work` is the number
-- of steps that were re-executed for it. In Partial they are those of the repair that is under way, and `work` is
-- what was spent on it so far. `memory`, `steps` and `live` say something only in Finished, and `work` in
-- Finished and Partial. Of a run or a repair, `looked` is how many contents were looked at since the run began,
-- `differed` how many of them were not what a read had recorded, `queued` the number of reads that are queued, and
-- `writes` that of the writes among the nodes. `marked` is what the places held at the end when they were marked,
-- if they were since the run began
pub record EngineState : Type 0 where
  pub code : Code
  pub fuel : ℕ
  pub inputs : List Block
  pub call : Option Call
  pub phase : Phase
  pub forest : Option (List Item)
  pub timeline : Option Timeline
  pub heap : Option Contents
  pub memory : Store
  pub steps : ℕ
  pub live : ℕ
  pub work : ℕ
  pub looked : ℕ
  pub differed : ℕ
  pub queued : ℕ
  pub writes : ℕ
  pub marked : Option (List (Place × Word))

-- the trace that the items stand for, if there are items
abbrev pub stands_for : Option (List Item) → Option Trace
stands_for None = None
stands_for (Some items) = trace_of items

-- the trace of the last run
abbrev pub trace : EngineState → Option Trace
trace e = stands_for e.forest

-- the block of an input with its bases, or a core block of the memory
abbrev pub block_of : List Block → Store → BlockId → Option Block
block_of inputs m (Input n) = slice_get inputs n
block_of inputs m (Core n) = core m n

-- the block of an engine with this name
abbrev pub block_in : EngineState → BlockId → Option Block
block_in e block = block_of e.inputs e.memory block

-- the run from scratch of the call on the present inputs
abbrev pub fresh_call : Code → List Block → ℕ → Option Call → Option Finished
fresh_call code inputs fuel None = None
fresh_call code inputs fuel (Some call) = fresh code call.function call.args inputs fuel

-- what the run of the engine's call from scratch on its present inputs comes to
abbrev pub fresh_of : EngineState → Option Finished
fresh_of e = fresh_call e.code e.inputs e.fuel e.call

-- What the engine has is this run, up to a one-to-one renaming of core blocks.
pub record IsRun (e : EngineState) (r : Finished) : Type 0 where
  pub numbers : List ℕ
  pub same : Same numbers e.memory.inputs (core e.memory) r.memory
  -- no other number has a block
  pub only : (n : ℕ) → IsSome (core e.memory n) → index_of numbers n < length numbers
  pub steps : e.steps ≡ r.steps
  pub live : e.live ≡ r.blocks
  pub fits : memory_fits e.code.structs r.memory ≡ true

-- What the engine has is the run from scratch on the present inputs.
pub record IsPresent (e : EngineState) : Type 0 where
  pub run : Finished
  pub fresh : fresh_of e ≡ Some run
  pub is : IsRun e run

-- the trace is one of the call on the present inputs
abbrev pub ReplaysCall : EngineState → Trace → Type 0
ReplaysCall e l = IfSome e.call (λ call. Replays e.code e.inputs call.function call.args l)

-- What the engine has of its run is what the trace gives, which is honest on the present inputs; and its
-- memory is that of the run from scratch, the blocks of the trace being numbered in their order.
pub record IsTraced (e : EngineState) (l : Trace) : Type 0 where
  pub honest : IsHonest e.code e.inputs l
  pub same : (r : Finished) → fresh_of e ≡ Some r
      → Same (core_numbers (blocks_of l)) e.memory.inputs (core e.memory) r.memory
  pub inputs : (n : ℕ) → slice_get e.memory.inputs n ≡ memory_after e.code e.inputs l (Input n)
  pub cores : (n : ℕ) → core e.memory n ≡ memory_after e.code e.inputs l (Core n)
  pub steps : e.steps ≡ steps_of l
  pub live : e.live ≡ length (blocks_of l)

-- The nodes nest, and the live blocks are exactly those that they allocate, each once.
pub record IsTidy (t : Timeline) (heap : Contents) : Type 0 where
  pub nests : Nests t.nodes
  pub lives : Lives heap t.nodes

-- The blocks that can be read are those of the trace, with their plain words; none of them is revoked, and
-- the region has their slots and no others.
pub record IsHeapOf (code : Code) (inputs : List Block) (l : Trace) (heap : Contents) : Type 0 where
  pub words : (b : ℕ) → heap_words heap (Core b) ≡ plain_of code inputs l (Core b)
  pub released : (b : BlockId) (block : Known) → ¬ (standing heap b ≡ Revoked block)
  pub slots : HasSlots heap

-- a run, though maybe not on the present inputs, or a part of a repair
abbrev pub has_run : Phase → Bool
has_run New = false
has_run IsFinished = true
has_run Pending = true
has_run Partial = true
has_run Dropped = false

-- a run of the call, though maybe not on the present inputs
abbrev pub is_whole : Phase → Bool
is_whole New = false
is_whole IsFinished = true
is_whole Pending = true
is_whole Partial = false
is_whole Dropped = false

abbrev pub IsWhole : Phase → Type 0
IsWhole phase = is_whole phase ≡ true

-- What is true of every engine.
pub record IsEngine (e : EngineState) : Type 0 where
  pub valid : valid e.code ≡ true
  pub fuel : InLimits e.fuel
  -- the inputs fit, and so does the call
  pub inputs : inputs_fit e.code.structs e.inputs ≡ true
  pub call : IfSome e.call (λ call. Fits e.code e.inputs call.function call.args)
  -- New is the phase where nothing was called
  pub uncalled : e.phase ≡ New → e.call ≡ None
  pub new : e.call ≡ None → e.phase ≡ New
  -- the trace is there where there is a run or a part of a repair
  pub kept : is_some (trace e) ≡ has_run e.phase
  pub flat_form : e.forest ≡ option_map flat (trace e)
  -- it is kept as nodes, which stand for its items
  pub nodes : e.forest ≡ option_map (λ t. forest_of t.nodes) e.timeline
  pub tidy : IfSome e.timeline (λ t. IfSome e.heap (IsTidy t))
  -- the trace of a run is one of the call, the heap has its blocks, and their numbers are below the next one
  -- of the heap
  pub replays : IsWhole e.phase → IfSome (trace e) (ReplaysCall e)
  pub held : IsWhole e.phase → IfSome (trace e) (λ l. IfSome e.heap (IsHeapOf e.code e.inputs l))
  pub numbers : IsWhole e.phase → IfSome (trace e) (λ l. IfSome e.heap (λ heap. Above (next heap) l))
  -- core blocks were given no more numbers than twice the steps that a run may take, whatever was repaired before
  pub few_numbers : IfSome e.heap (λ heap. next heap ≤ 2 * e.fuel)
  pub traced : e.phase ≡ IsFinished → IfSome (trace e) (IsTraced e)
  pub present : e.phase ≡ IsFinished → IsPresent e
  -- no read is queued in a finished run
  pub idle : e.phase ≡ IsFinished → e.queued ≡ 0
  -- in Dropped nothing of a run is there, and no core block
  pub none_left : e.phase ≡ Dropped → (n : ℕ) → core e.memory n ≡ None
  pub heap_there : is_some e.heap ≡ has_run e.phase
  -- where there is no run nothing is marked
  pub unmarked : has_run e.phase ≡ false → e.marked ≡ None

-- the phase after an edit
abbrev pub phase_after_edit : Phase → Phase
phase_after_edit New = New
phase_after_edit IsFinished = Pending
phase_after_edit Pending = Pending
phase_after_edit Partial = Partial
phase_after_edit Dropped = Dropped

-- whether a word fits a field of this kind; none fits a field that is not there
abbrev pub fits_in : List StructInfo → Blocks → Option FieldKind → Word → Bool
fits_in structs m None word = false
fits_in structs m (Some kind) word = fits_field structs m kind word

-- the place is that of a modifiable of an input, and the word fits it
abbrev pub takes : EngineState → Place → Word → Bool
takes e p word =
    is_cell (kind_at e.code.structs (alone e.inputs) p)
    && fits_in e.code.structs (alone e.inputs) (kind_at e.code.structs (alone e.inputs) p) word

-- the inputs with another base
abbrev pub with_base : List Block → Place → Word → List Block
with_base inputs p word = (written_at (alone inputs) p.block p.field word).inputs

-- whether there is such a field, and it is a plain one
abbrev pub is_plain : Option FieldKind → Bool
is_plain (Some (Plain kind)) = true
is_plain _ = false

-- the block may be looked at: core blocks only in Finished
abbrev pub Shows : EngineState → BlockId → Type 0
Shows e (Input n) = ⊤
Shows e (Core n) = e.phase ≡ IsFinished

-- memory does not run out
abbrev pub NeedsNoMemory : {A : Type 0} → Result A RunError → Type 0
NeedsNoMemory (Ok x) = ⊤
NeedsNoMemory (Err Memory) = ⊥
NeedsNoMemory (Err OutOfFuel) = ⊤

-- what holds where a run was out of fuel
abbrev pub IfOutOfFuel : {A : Type 0} → Result A RunError → Type 0 → Type 0
IfOutOfFuel (Ok x) P = ⊤
IfOutOfFuel (Err Memory) P = ⊤
IfOutOfFuel (Err OutOfFuel) P = P
