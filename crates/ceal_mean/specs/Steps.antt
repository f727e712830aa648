-- One step at a time.
use Rattle.std.specs.Prelude.{Option, Some, None, List, [], ◌∷◌}
use Rattle.ceal_base.specs.Block.{Blocks}
use Rattle.ceal_base.specs.declared.typed.Typed.{Typed}
use Rattle.ceal_base.specs.declared.typed.TypedStmt.{TypedStmt}
use Rattle.ceal_base.specs.declared.word.Word.{Word}
use Rattle.ceal_mean.specs.Exec.{state_after_item}
use Rattle.ceal_mean.specs.Frame.{Frame, State}
use Rattle.ceal_mean.specs.Todo.{Next, first_of}

-- the first statement of the first frame, and the frames without it
pub record Begun : Type 0 where
  pub stmt : TypedStmt
  pub frames : List Frame

-- the next statement of a frame, and the frames with what is left
abbrev pub begun_with : Option Next → List Word → List Frame → Option Begun
begun_with None env below = None
begun_with (Some next) env below =
    Some (record { stmt = next.stmt; frames = record { todo = next.rest; env = env } ∷ below })

-- the next statement of the first frame, and the frames with what is left
abbrev pub begun : List Frame → Option Begun
begun [] = None
begun (f ∷ below) = begun_with (first_of f.todo) f.env below

-- the state after a step from a memory and frames of which the first is not over, where a frame is left
abbrev pub advanced : Typed → Blocks → List Frame → Option State
advanced p m [] = None
advanced p m (f ∷ below) = Some (state_after_item p m f f.todo below)
