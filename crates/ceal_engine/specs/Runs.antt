-- What becomes of the run of an engine: what a first run leaves, with which run a repair continues, and what edits and
-- new inputs make of it.
use Rattle.std.specs.Prelude.{◌≡◌, ◌≤◌, ◌+◌, ℕ, true, false, Option, Some, None, List, length}
use Rattle.std.specs.Option.{IsSomeAnd}
use Rattle.ceal_base.specs.Block.{Block}
use Rattle.ceal_base.specs.Trace.{Trace, trace_of}
use Rattle.ceal_base.specs.declared.call.Call.{Call}
use Rattle.ceal_base.specs.Operators.{same_block}
use Rattle.ceal_base.specs.declared.kind.Shape.{Shape}
use Rattle.ceal_base.specs.declared.typed.StructInfo.{StructInfo}
use Rattle.ceal_base.specs.declared.word.BlockId.TheVariants.{Input}
use Rattle.ceal_base.specs.declared.word.Place.{Place}
use Rattle.ceal_base.specs.declared.word.Word.{Word}
use Rattle.ceal_code.specs.Program.{Code}
use Rattle.ceal_code.specs.Replay.{stored}
use Rattle.ceal_engine.specs.Engine.{EngineState}
use Rattle.ceal_engine.specs.Cost.{CostOfRun}
use Rattle.ceal_engine.specs.Keeping.{Keeps, state_of}
use Rattle.ceal_engine.specs.Repaired.{IsFirst}
use Rattle.ceal_engine.specs.declared.run.Run.{Run}
use Rattle.ceal_engine.specs.declared.run.Run.TheVariants as its
use Rattle.ceal_engine.specs.declared.run.Stage.{Stage}
use Rattle.ceal_engine.specs.declared.run.Stage.TheVariants as stage
use Rattle.ceal_mods.specs.Mods.{cell_of}
use Rattle.ceal_repair.specs.Kept.{Kept, base_in}
use Rattle.ceal_repair.specs.Looks.{LooksAtNothing}
use Rattle.ceal_repair.specs.Words.{base_of}
use Rattle.ceal_repair.specs.declared.running.Running.{Running}
use Rattle.ceal_trace.specs.Items.{forest_of}

-- the state of an engine that has this run, finished
abbrev pub finished : Code → ℕ → List Block → Option Call → Running → EngineState
finished code fuel inputs call run = state_of code fuel inputs call (its.Kept run stage.Finished)

-- the state of an engine that has this part of a repair
abbrev pub under_way : Code → ℕ → List Block → Option Call → Running → EngineState
under_way code fuel inputs call run = state_of code fuel inputs call (its.Kept run stage.Partial)

-- the trace that a run stands for
abbrev pub trace_in : Running → Option Trace
trace_in run = trace_of (forest_of run.tables.trace.nodes)

-- what a first run that has ended leaves: it can be kept, its items are the first trace, its looks are paid, and
-- nothing is marked
pub record IsFirstOf (code : Code) (fuel : ℕ) (inputs : List Block) (call : Option Call) (run : Running) : Type 0 where
  pub kept : Keeps code fuel inputs (its.Kept run stage.Finished) call
  pub first : IsSomeAnd (trace_in run) (IsFirst (finished code fuel inputs call run))
  pub cost : CostOfRun (finished code fuel inputs call run)
  pub unmarked : run.tables.mods.marked ≡ None

-- a run of which so much work is told
abbrev pub told : ℕ → Running → Running
told work run = record run { spent = work }

-- the same, where there is a run
abbrev pub told_of : ℕ → Run → Run
told_of work its.New = its.New
told_of work (its.Kept run s) = its.Kept (told work run) s
told_of work its.Dropped = its.Dropped

-- a run as a repair continues it; where one begins no step was spent on it
abbrev pub opened_at : Stage → Running → Running
opened_at stage.Finished run = told 0 run
opened_at stage.Pending run = told 0 run
opened_at stage.Partial run = run

-- the same, where there is a run
abbrev pub opened : Run → Option Running
opened its.New = None
opened (its.Kept run s) = Some (opened_at s run)
opened its.Dropped = None

-- a run whose nodes, heap and work are those of another
pub record SameRun (old new : Running) : Type 0 where
  pub trace : new.tables.trace ≡ old.tables.trace
  pub heap : new.heap ≡ old.heap
  pub spent : new.spent ≡ old.spent
  pub kept : Kept new.tables

-- a base was set: nothing was looked at, and one read was queued at most
pub record SetsBase (p : Place) (value : Word) (old new : Running) : Type 0 where
  pub same : SameRun old new
  pub looked : new.tables.mods.looked ≡ old.tables.mods.looked
  pub differed : new.tables.mods.differed ≡ old.tables.mods.differed
  pub queued : length new.tables.stale.stamps ≤ length old.tables.stale.stamps + 1
  pub base : (q : Place) → base_in new.tables.mods q ≡ stored (base_in old.tables.mods) p value q

-- the bases of an input of this shape and with these words were set
pub record SetsInput
    (structs : List StructInfo) (input : ℕ) (shape : Shape) (words : List Word) (old new : Running) : Type 0 where
  pub same : SameRun old new
  pub looks : LooksAtNothing old.tables new.tables
  pub here : (q : Place) → same_block q.block (Input input) ≡ true
      → base_in new.tables.mods q ≡ base_of structs shape words q.field (base_in old.tables.mods q)
  pub others : (q : Place) → same_block q.block (Input input) ≡ false
      → base_in new.tables.mods q ≡ base_in old.tables.mods q

-- no place holds anything else
pub record LeavesCells (old new : Running) : Type 0 where
  pub same : SameRun old new
  pub looks : LooksAtNothing old.tables new.tables
  pub cells : (q : Place) → cell_of new.tables.mods q ≡ cell_of old.tables.mods q

-- how far a run is after an edit
abbrev pub edited_at : Stage → Stage
edited_at stage.Finished = stage.Pending
edited_at stage.Pending = stage.Pending
edited_at stage.Partial = stage.Partial

abbrev pub same_stage : Stage → Stage
same_stage s = s

-- this is true of both runs, and the second is as far as this says of the first, or there is none
abbrev pub OfRuns : (Running → Running → Type 0) → (Stage → Stage) → Run → Run → Type 0
OfRuns P f its.New run = run ≡ its.New
OfRuns P f (its.Kept old s) its.New = ⊥
OfRuns P f (its.Kept old s) (its.Kept run t) = P old run × (t ≡ f s)
OfRuns P f (its.Kept old s) its.Dropped = ⊥
OfRuns P f its.Dropped run = run ≡ its.Dropped
