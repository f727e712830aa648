-- The frames, of which the code keeps the running one at the end.
use Rattle.std.proofs.Common.{◌≡◌, ◌∙◌, Option, Some, None, List, [], ◌∷◌, ◌++◌, refl, ap, reverse}
use Rattle.std.proofs.lemmas.List.{reverse-append}
use Rattle.ceal_base.specs.Block.{Blocks}
use Rattle.ceal_base.specs.declared.typed.Typed.{Typed}
use Rattle.ceal_base.specs.declared.typed.TypedStmt.{TypedStmt, out-TypedStmt}
use Rattle.ceal_mean.specs.Exec.{effect, frames_to_run, state_after_item}
use Rattle.ceal_mean.specs.Frame.{Item, Frame, State}
use Rattle.ceal_mean.specs.Steps.{Begun, begun, begun_with, advanced}
use Rattle.ceal_mean.specs.Todo.{first_of}

pub reverse-push : (fs : List Frame) (f : Frame) → reverse (fs ++ f ∷ []) ≡ f ∷ reverse fs
reverse-push fs f = reverse-append fs (f ∷ [])

pub ruleset frame_steps = (reverse-push)

-- and a step does that statement
module _ (p : Typed) (m : Blocks) where
  abbrev after_first : TypedStmt → List Frame → Option State
  after_first s [] = None
  after_first s (f ∷ below) = Some (effect p m f.env f.todo below s (out-TypedStmt s))

  abbrev after_begun : Option Begun → Option State
  after_begun None = None
  after_begun (Some b) = after_first b.stmt b.frames

  first-done : (f : Frame) (todo : List Item) (below : List Frame) (b : Begun) → begun_with (first_of todo) f.env below ≡ Some b
      → Some (state_after_item p m f todo below) ≡ after_begun (Some b)
  first-done f [] below b h = cc
  first-done f (item ∷ rest) below b h = ap after_begun h

  begun-done : (fs : List Frame) (b : Begun) → begun fs ≡ Some b → advanced p m fs ≡ after_begun (Some b)
  begun-done [] b h = cc
  begun-done (f ∷ below) b h = first-done f f.todo below b h

  pub step-done : (old new rest : List Frame) (f : Frame) (s : TypedStmt) → begun (frames_to_run (reverse old)) ≡ Some (record { stmt = s; frames = reverse new })
      → new ≡ rest ++ f ∷ [] → advanced p m (frames_to_run (reverse old)) ≡ Some (effect p m f.env f.todo (reverse rest) s (out-TypedStmt s))
  step-done old new rest f s h e =
      begun-done (frames_to_run (reverse old)) (record { stmt = s; frames = reverse new }) h ∙ rw (e, reverse-push rest f) refl
