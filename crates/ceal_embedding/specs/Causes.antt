-- Why an example is given up.
use Rattle.std.specs.Prelude.{◌≡◌, ◌⊎◌, false, None}
use Rattle.ceal_base.specs.declared.fault.FrontError.{FrontError}
use Rattle.ceal_base.specs.declared.fault.FrontError.TheVariants.{Memory as FrontMemory, Fault}
use Rattle.ceal_base.specs.declared.word.Place.{Place}
use Rattle.ceal_base.specs.declared.word.Word.{Word}
use Rattle.ceal_embedding.specs.declared.trouble.Trouble.{Trouble}
use Rattle.ceal_embedding.specs.declared.trouble.Trouble.TheVariants.{Memory, Source, Refused, Fuel, Output}
use Rattle.ceal_engine.specs.Engine.{EngineState, fresh_of, takes, with_base}
use Rattle.ceal_engine.specs.declared.phase.Phase.TheVariants.{New, Dropped}
use Rattle.ceal_engine.specs.declared.run_error.RunError.{RunError}
use Rattle.ceal_engine.specs.declared.run_error.RunError.TheVariants.{Memory as RunMemory, OutOfFuel}

-- the trouble that an error of the compiler is
abbrev pub front_trouble : FrontError → Trouble
front_trouble FrontMemory = Memory
front_trouble (Fault f) = Source

-- and that an error of a run is
abbrev pub run_trouble : RunError → Trouble
run_trouble RunMemory = Memory
run_trouble OutOfFuel = Fuel

-- Nothing was called, or the engine does not take the edit.
abbrev pub IsRefused : EngineState → Place → Word → Type 0
IsRefused e place base = (e.phase ≡ New) ⊎ (takes e place base ≡ false)

-- The edit was made, and the run was dropped.
pub record IsDropped (old : EngineState) (place : Place) (base : Word) (new : EngineState) : Type 0 where
  pub inputs : new.inputs ≡ with_base old.inputs place base
  pub phase : new.phase ≡ Dropped

-- why an update is given up, and what is left of the engine
abbrev pub IsGivenUp : Trouble → EngineState → Place → Word → EngineState → Type 0
IsGivenUp Memory old place base new = (new ≡ old) ⊎ IsDropped old place base new
IsGivenUp Refused old place base new = IsRefused old place base × (new ≡ old)
IsGivenUp Fuel old place base new = (fresh_of new ≡ None) × IsDropped old place base new
IsGivenUp Source old place base new = ⊥
IsGivenUp Output old place base new = ⊥
