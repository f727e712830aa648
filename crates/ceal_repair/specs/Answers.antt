-- The results of a run from nothing and of a repair.
use Rattle.std.specs.Prelude.{◌≡◌, ℕ, ◌≤◌, ◌*◌, ◌++◌, Some, None, List, [], ⊤}
use Rattle.ceal_base.specs.Block.{Block}
use Rattle.ceal_base.specs.Trace.{Trace, Nothing, flat, steps_of}
use Rattle.ceal_base.specs.declared.word.BlockId.{BlockId}
use Rattle.ceal_base.specs.declared.word.BlockId.TheVariants.{Core}
use Rattle.ceal_base.specs.declared.word.Word.{Word}
use Rattle.ceal_code.specs.Fitting.{Fits}
use Rattle.ceal_code.specs.Fresh.{fresh}
use Rattle.ceal_code.specs.Program.{Code}
use Rattle.ceal_code.specs.Replay.{Replays, IsHonest, bases, plain_of}
use Rattle.ceal_heap.specs.Heap.{Known, Revoked, HasSlots, next, standing, plain_of as heap_words}
use Rattle.ceal_repair.specs.Blocks.{HasBlocks}
use Rattle.ceal_repair.specs.declared.advance.Progress.{Progress}
use Rattle.ceal_repair.specs.declared.advance.Progress.TheVariants as progress
use Rattle.ceal_repair.specs.declared.running.Outcome.{Outcome}
use Rattle.ceal_repair.specs.declared.running.Outcome.TheVariants.{Done, OutOfFuel}
use Rattle.ceal_repair.specs.declared.running.Running.{Running}
use Rattle.ceal_repair.specs.Kept.{Kept}
use Rattle.ceal_repair.specs.Looks.{PaysFirst}
use Rattle.ceal_theory.specs.Adjust.{Above}
use Rattle.ceal_theory.specs.Computed.{Repaired, adjusted, first_of}
use Rattle.ceal_theory.specs.Named.{Apart, Named, naming, trace_by}
use Rattle.ceal_theory.specs.Repair.{Single}
use Rattle.ceal_theory.specs.Walk.{AgreesAll}
use Rattle.ceal_trace.specs.Items.{forest_of, Nests}
use Rattle.ceal_trace.specs.Nodes.{Entry}

-- The nodes of a run stand for this trace on these inputs: its flat items are theirs, and the blocks that can be read
-- are its blocks with their plain words, none of them revoked; the region has their slots and no others.
pub record StandsForTrace (code : Code) (inputs : List Block) (l : Trace) (run : Running) : Type 0 where
  pub kept : Kept run.tables
  pub nests : Nests run.tables.trace.nodes
  pub items : forest_of run.tables.trace.nodes ≡ flat l
  pub words : (b : ℕ) → heap_words run.heap (Core b) ≡ plain_of code inputs l (Core b)
  pub released : (b : BlockId) (block : Known) → ¬ (standing run.heap b ≡ Revoked block)
  pub slots : HasSlots run.heap
  pub blocks : HasBlocks code inputs run.heap run.tables

-- The nodes stand for a trace of the call that has no more steps than the fuel, and at most twice as many numbers were
-- given out to core blocks. Inputs may have got other bases since it was honest.
pub record IsKeptRun (code : Code) (inputs : List Block) (f : ℕ) (args : List Word) (fuel : ℕ)
    (l : Trace) (run : Running) : Type 0 where
  pub stands : StandsForTrace code inputs l run
  pub fits : Fits code inputs f args
  pub replays : Replays code inputs f args l
  pub few : steps_of l ≤ fuel
  pub numbers : next run.heap ≤ 2 * fuel

-- The nodes stand for a trace of the call that is honest on the inputs and has no more steps than the fuel, and no read
-- is queued.
pub record IsRunOf (code : Code) (inputs : List Block) (f : ℕ) (args : List Word) (fuel : ℕ)
    (l : Trace) (run : Running) : Type 0 where
  pub stands : StandsForTrace code inputs l run
  pub replays : Replays code inputs f args l
  pub honest : IsHonest code inputs l
  pub few : steps_of l ≤ fuel
  pub numbers : next run.heap ≤ 2 * fuel
  pub idle : run.tables.stale.stamps ≡ []

-- The trace is the first trace of the call, with these names for its blocks; all its steps are work, and they pay for
-- what was looked at.
pub record IsFirstRun (code : Code) (inputs : List Block) (f : ℕ) (args : List Word) (fuel : ℕ)
    (run : Running) : Type 0 where
  pub trace : Trace
  pub is_run : IsRunOf code inputs f args fuel trace run
  pub first : Repaired
  pub is : first_of code inputs fuel f args ≡ Some first
  pub names : ℕ → ℕ
  pub named : Named code inputs f args Nothing 0 names first.items trace
  pub work : run.spent ≡ first.work
  pub pays : PaysFirst run
  pub unmarked : run.tables.mods.marked ≡ None

-- out of fuel exactly when the run from scratch is
abbrev pub IsFirst : Code → List Block → ℕ → List Word → ℕ → Outcome → Type 0
IsFirst code inputs f args fuel (Done run) = IsFirstRun code inputs f args fuel run
IsFirst code inputs f args fuel OutOfFuel = fresh code f args inputs fuel ≡ None

-- The new trace is the repair of the old one with new blocks from `next` on,
-- which have these names in place of their numbers.
pub record IsRepairFrom (code : Code) (inputs : List Block) (fuel : ℕ) (names : ℕ → ℕ)
    (old new : Trace) (work next : ℕ) : Type 0 where
  pub repair : Repaired
  pub is : adjusted code inputs next fuel old ≡ Some repair
  pub same : new ≡ trace_by (naming next names) repair.items
  pub counted : work ≡ repair.work

-- The run is that of the repair of the old trace on the present inputs.
-- Where the old trace is honest on them nothing changes.
pub record IsRepairedRun (code : Code) (inputs : List Block) (f : ℕ) (args : List Word) (fuel : ℕ)
    (old : Trace) (before run : Running) : Type 0 where
  pub trace : Trace
  pub is_run : IsRunOf code inputs f args fuel trace run
  pub names : ℕ → ℕ
  pub single : Single names
  pub apart : Apart names old
  pub from : (next : ℕ) → Above next old → IsRepairFrom code inputs fuel names old trace run.spent next
  pub unchanged : IsHonest code inputs old → (run.tables.trace ≡ before.tables.trace) × (run.spent ≡ 0)
  -- nodes at the beginning that agree with the walk over the inputs stay as they are, in front of all others
  pub front : (front back : List Entry) → before.tables.trace.nodes ≡ front ++ back
      → AgreesAll code (bases code inputs) (forest_of front)
      → (later : List Entry) × (run.tables.trace.nodes ≡ front ++ later)

-- what a propagation makes of a run of the call, by how far it has come; where the steps do not suffice, those of a
-- run from scratch do not either
abbrev pub IsRepaired : Code → List Block → ℕ → List Word → ℕ → Trace → Running → Running → Progress → Type 0
IsRepaired code inputs f args fuel old before run progress.More = ⊤
IsRepaired code inputs f args fuel old before run progress.Done =
    IsRepairedRun code inputs f args fuel old before run
IsRepaired code inputs f args fuel old before run progress.Spent = fresh code f args inputs fuel ≡ None
IsRepaired code inputs f args fuel old before run progress.OutOfFuel = fresh code f args inputs fuel ≡ None
