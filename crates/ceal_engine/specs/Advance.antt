-- What a call makes of an engine that continues its repair, begins one, or runs its call from nothing.
use Rattle.std.specs.Prelude.{◌≡◌, ◌⊎◌, ℕ, true, Option, Some, None, IsSome, Result, Ok, Err, ⊤}
use Rattle.std.specs.Option.{IsSomeAnd}
use Rattle.ceal_base.specs.Trace.{Trace}
use Rattle.ceal_code.specs.Replay.{IsHonest}
use Rattle.ceal_engine.specs.Apart.{RevaluesApart}
use Rattle.ceal_engine.specs.Calls.{Advances, IsRunAnew}
use Rattle.ceal_engine.specs.Cost.{CostOfRepair, LooksAtQueued}
use Rattle.ceal_engine.specs.Engine.{EngineState, IsPresent, IsWhole, has_run, trace}
use Rattle.ceal_engine.specs.Partial.{CarriesRepair, IsOut, KeepsWords, LeavesFewer, SliceContinues, SliceEnds}
use Rattle.ceal_engine.specs.Repaired.{IsRepaired, IsUnchanged, KeepsFront}
use Rattle.ceal_engine.specs.declared.phase.Came.{Came}
use Rattle.ceal_engine.specs.declared.phase.Came.TheVariants as came
use Rattle.ceal_engine.specs.declared.phase.Phase.TheVariants.{Finished, Partial, Dropped}
use Rattle.ceal_engine.specs.declared.phase.Progress.{Progress}
use Rattle.ceal_engine.specs.declared.phase.Progress.TheVariants.{More, Done}
use Rattle.ceal_engine.specs.declared.run_error.RunError.{RunError}
use Rattle.ceal_engine.specs.declared.run_error.RunError.TheVariants.{Memory, OutOfFuel}
use Rattle.ceal_theory.specs.Repair.{own}
use Rattle.ceal_theory.specs.Slices.{Repair, sliced}

-- A run was repaired, whole or in part. The nodes before the first stale read stay, and the distance of the traces pays
-- for what was done, and reads that got another value are apart in the traces. Where no read is stale only queued reads
-- are looked at. What was marked is marked still.
pub record Repairs (e n : EngineState) : Type 0 where
  pub run : has_run e.phase ≡ true
  pub front : KeepsFront e n
  pub cost : CostOfRepair e n
  pub apart : RevaluesApart e n
  pub idle : (l : Trace) → trace e ≡ Some l → IsHonest e.code e.inputs l → LooksAtQueued e n
  pub marked : n.marked ≡ e.marked

-- Reads are stale still. The engine has what the definition's slice leaves, blocks that were revoked can be read, and
-- from the first stale read on there are fewer reads than before.
pub record RepairGoesOn (e n : EngineState) (reads : Option ℕ) : Type 0 where
  pub phase : n.phase ≡ Partial
  pub given : IsSome reads
  pub repairs : Repairs e n
  pub slice : (next : ℕ) (r : Repair) → CarriesRepair e next r → SliceContinues e n reads next r
  pub words : KeepsWords e.heap n.heap
  pub fewer : LeavesFewer e n reads

-- No read is stale: what the engine has is the run from scratch on the present inputs. The trace of a run is the repair
-- of the one before, and where that was honest nothing has changed.
pub record RepairEnds (e n : EngineState) (reads : Option ℕ) : Type 0 where
  pub phase : n.phase ≡ Finished
  pub present : IsPresent n
  pub repairs : Repairs e n
  pub slice : (next : ℕ) (r : Repair) → CarriesRepair e next r → SliceEnds e n reads next r
  pub repaired : IsWhole e.phase → (l : Trace) → trace e ≡ Some l → IsSomeAnd (trace n) (IsRepaired n l)
  pub unchanged : IsWhole e.phase → (l : Trace) → trace e ≡ Some l → IsHonest e.code e.inputs l → IsUnchanged n l
  pub unchanged_nodes : IsWhole e.phase → (l : Trace) → trace e ≡ Some l → IsHonest e.code e.inputs l
      → n.timeline ≡ e.timeline

-- The call was run from nothing: there was no run, or a repair in progress has no slice within the fuel.
pub record RunsFromNothing (e n : EngineState) (reads : Option ℕ) : Type 0 where
  pub from : (e.phase ≡ Partial) ⊎ (e.phase ≡ Dropped)
  pub slice : (next : ℕ) (r : Repair) → CarriesRepair e next r → sliced e.code own e.inputs reads e.fuel r ≡ None
  pub anew : IsRunAnew n

-- What becomes of an engine, by the answer. `Advances` says what stays, and when an error comes.
abbrev pub AdvanceOutcome : EngineState → EngineState → Option ℕ → Result Came RunError → Type 0
AdvanceOutcome e n reads (Ok came.More) = RepairGoesOn e n reads
AdvanceOutcome e n reads (Ok came.Done) = RepairEnds e n reads
AdvanceOutcome e n reads (Ok came.Anew) = RunsFromNothing e n reads
AdvanceOutcome e n reads (Err OutOfFuel) = (next : ℕ) (r : Repair) → CarriesRepair e next r → IsOut e reads r
AdvanceOutcome e n reads (Err Memory) = ⊤

-- The second engine is what `advance` makes of the first one, with this result. In Finished it takes no memory, and
-- nothing but the work is another.
pub record IsAdvanced (e n : EngineState) (reads : Option ℕ) (result : Result Came RunError) : Type 0 where
  pub keeps : Advances e n result
  pub outcome : AdvanceOutcome e n reads result
  pub sure : e.phase ≡ Finished → result ≡ Ok came.Done
  pub still : e.phase ≡ Finished → n ≡ record e { work = 0 }

-- it is as after `advance` of all stale reads
abbrev pub IsAdvancedToEnd : {A : Type 0} → EngineState → EngineState → Result A RunError → Type 0
IsAdvancedToEnd e n (Ok done) = IsAdvanced e n None (Ok came.Done) ⊎ IsAdvanced e n None (Ok came.Anew)
IsAdvancedToEnd e n (Err error) = IsAdvanced e n None (Err error)

-- it is as after `advance` of this number of reads, where it is not told whether the call was run from nothing
abbrev pub IsAdvancedBy : EngineState → EngineState → ℕ → Result Progress RunError → Type 0
IsAdvancedBy e n reads (Ok More) = IsAdvanced e n (Some reads) (Ok came.More)
IsAdvancedBy e n reads (Ok Done) =
    IsAdvanced e n (Some reads) (Ok came.Done) ⊎ IsAdvanced e n (Some reads) (Ok came.Anew)
IsAdvancedBy e n reads (Err error) = IsAdvanced e n (Some reads) (Err error)
