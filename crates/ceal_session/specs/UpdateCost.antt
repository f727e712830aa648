-- What an update costs, by two numbers that the runs from scratch before it and after it give.
use Rattle.std.specs.Prelude.{◌≡◌, ℕ, Some, None, Ok}
use Rattle.ceal_base.specs.declared.call.Call.{Call}
use Rattle.ceal_cost.specs.Apart.{first_apart}
use Rattle.ceal_cost.specs.Bounds.{first_cost}
use Rattle.ceal_engine.specs.Advance.{IsAdvanced}
use Rattle.ceal_engine.specs.Cost.{IsPaid, Updates}
use Rattle.ceal_engine.specs.Engine.{EngineState, IsEngine, IsWhole}
use Rattle.ceal_engine.specs.Partial.{SameRepair}
use Rattle.ceal_engine.specs.declared.phase.Came.TheVariants.{Done}
use Rattle.ceal_engine.specs.declared.phase.Phase.TheVariants.{Finished}

-- An update of a finished run: edits and new inputs in any order, and then a repair of all stale reads.
pub record IsUpdate (e n : EngineState) (edits : ℕ) (call : Call) : Type 0 where
  pub before : IsEngine e
  pub finished : e.phase ≡ Finished
  pub called : e.call ≡ Some call
  pub edited : EngineState
  pub between : IsEngine edited
  pub whole : IsWhole edited.phase
  pub fuel : edited.fuel ≡ e.fuel
  pub same : SameRepair e edited
  pub counted : Updates e edited edits 0 0
  pub repaired : IsAdvanced edited n None (Ok Done)
  pub after : IsEngine n

-- Edits, the cost of the two first traces side by side, and the reads that are apart in them pay for what it looks at
-- and touches. No trace that a repair left is needed to tell these numbers.
abbrev pub UpdateCostLaw : Type 0
UpdateCostLaw = (e n : EngineState) (edits : ℕ) (call : Call) → IsUpdate e n edits call
    → IsPaid e n edits (first_cost e.code e.fuel e.inputs n.inputs call.function call.args)
    (first_apart e.code e.fuel e.inputs n.inputs call.function call.args)
