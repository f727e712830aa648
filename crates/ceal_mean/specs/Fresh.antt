-- The run from scratch.
use Rattle.std.specs.Prelude.{ℕ, zero, suc, ◌+◌, Option, Some, None, List, [], ◌∷◌, length}
use Rattle.ceal_base.specs.Block.{Block, Blocks}
use Rattle.ceal_base.specs.Finished.{Finished}
use Rattle.ceal_base.specs.declared.typed.Typed.{Typed}
use Rattle.ceal_base.specs.declared.word.Word.{Word}
use Rattle.ceal_mean.specs.Exec.{frames_at_entry, frames_to_run, state_after_item}
use Rattle.ceal_mean.specs.Frame.{Frame, State}
use Rattle.ceal_mean.specs.declared.run.Outcome.{Outcome}
use Rattle.ceal_mean.specs.declared.run.Outcome.TheVariants.{Done, OutOfFuel}

-- a run from frames of which the first has a step to do, with fuel for the given number of steps more, after
-- the steps so far
unfoldable pub run_settled : Typed → ℕ → ℕ → Blocks → List Frame → Option Finished
run_settled p fuel steps m [] = Some (record { memory = m; steps = steps; blocks = length m.made })
run_settled p zero steps m (f ∷ below) = None
run_settled p (suc fuel) steps m (f ∷ below) =
    let s = state_after_item p m f f.todo below in run_settled p fuel (steps + 1) s.memory (frames_to_run s.frames)

-- a run from a state: it is finished where no frame is left
abbrev pub run : Typed → ℕ → ℕ → State → Option Finished
run p fuel steps s = run_settled p fuel steps s.memory (frames_to_run s.frames)

-- the state in which a function begins on these inputs
abbrev pub start : Typed → ℕ → List Word → List Block → State
start p function args inputs = record {
  memory = record { inputs = inputs; made = [] };
  frames = frames_at_entry p function args;
}

-- `Fresh`: the run of a function from nothing but its inputs, where it is finished after at most `fuel` steps
abbrev pub fresh : Typed → ℕ → List Word → List Block → ℕ → Option Finished
fresh p function args inputs fuel = run p fuel 0 (start p function args inputs)

-- what the interpreter answers
abbrev pub outcome_of : Option Finished → Outcome
outcome_of None = OutOfFuel
outcome_of (Some f) = Done f.memory f.steps f.blocks
