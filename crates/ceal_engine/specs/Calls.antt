-- What is so after each call that runs the program or repairs its run, whatever it answers.
use Rattle.std.specs.Prelude.{◌≡◌, ℕ, Some, None, Result, IsOk, OnErr, List}
use Rattle.std.specs.Option.{IsSomeAnd}
use Rattle.ceal_base.specs.Trace.{Trace}
use Rattle.ceal_base.specs.declared.word.Word.{Word}
use Rattle.ceal_code.specs.Replay.{IsHonest}
use Rattle.ceal_engine.specs.Engine.{EngineState, IsPresent, IsWhole, IfOutOfFuel, NeedsNoMemory, fresh_of, trace}
use Rattle.ceal_engine.specs.Cost.{CostOfRun}
use Rattle.ceal_engine.specs.Repaired.{IsFirst}
use Rattle.ceal_engine.specs.declared.phase.Phase.TheVariants.{Finished, Dropped}
use Rattle.ceal_engine.specs.declared.run_error.RunError.{RunError}

-- The call was made in the first engine, gave this result, and left the second one: only the run is another. Where the
-- trace was honest on the inputs, a whole run is repaired for sure, and a part of a repair needs no memory. Out of fuel
-- comes only where the run from scratch is out of fuel, and after an error there is no run.
pub record Advances {A : Type 0} (e n : EngineState) (result : Result A RunError) : Type 0 where
  pub code : n.code ≡ e.code
  pub fuel : n.fuel ≡ e.fuel
  pub inputs : n.inputs ≡ e.inputs
  pub call : n.call ≡ e.call
  pub sure_where_honest : IsWhole e.phase
      → (l : Trace) → trace e ≡ Some l → IsHonest e.code e.inputs l → IsOk result
  pub sure_in_part : (l : Trace) → trace e ≡ Some l → IsHonest e.code e.inputs l → NeedsNoMemory result
  pub out_of_fuel : IfOutOfFuel result (fresh_of n ≡ None)
  pub dropped : OnErr result (n.phase ≡ Dropped)

-- the engine with a call, of which there is no run
abbrev pub called : EngineState → ℕ → List Word → EngineState
called e f args = record e { call = Some (record { function = f; args = args }); phase = Dropped }

-- The call was run from nothing.
pub record IsRunAnew (e : EngineState) : Type 0 where
  pub phase : e.phase ≡ Finished
  pub present : IsPresent e
  pub first : IsSomeAnd (trace e) (IsFirst e)
  pub cost : CostOfRun e
  pub unmarked : e.marked ≡ None
