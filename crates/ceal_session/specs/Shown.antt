-- What is shown of an engine.
use Rattle.std.specs.Prelude.{ℕ, Bool, true, false, None, List, [], slice_get, unwrap_or, if◌then◌else◌}
use Rattle.ceal_engine.specs.Engine.{EngineState, stored_at}
use Rattle.ceal_engine.specs.declared.phase.Phase.{Phase}
use Rattle.ceal_engine.specs.declared.phase.Phase.TheVariants.{New, Finished, Pending, Partial, Dropped}
use Rattle.ceal_show.specs.Shown.{Shown}

abbrev pub is_finished : Phase → Bool
is_finished New = false
is_finished Finished = true
is_finished Pending = false
is_finished Partial = false
is_finished Dropped = false

-- the blocks of a finished run, by the engine's numbers
unfoldable pub shown_blocks : EngineState → Shown
shown_blocks e = λ b. if is_finished e.phase then stored_at e.memory b else None

-- the name of each input
abbrev pub label : List (List ℕ) → ℕ → List ℕ
label names n = unwrap_or (slice_get names n) []
