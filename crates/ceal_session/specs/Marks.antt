-- What the modifiables of inputs held when they were marked, and which of them hold something else now.
use Rattle.std.specs.List.{All}
use Rattle.std.specs.Prelude.{◌≡◌, ◌≢◌, ◌≤◌, ℕ, pos, Bool, true, false, count_by, length, List, [], ◌∷◌, IsSome}
use Rattle.std.specs.Prelude.{IsSorted}
use Rattle.ceal_base.specs.contracts.word.PlaceOrd.TheImpl.{ghosts as order}
use Rattle.ceal_base.specs.contracts.word.PlacePartialEq.TheImpl.{ghosts}
use Rattle.ceal_base.specs.declared.word.BlockId.{BlockId}
use Rattle.ceal_base.specs.declared.word.BlockId.TheVariants.{Input, Core}
use Rattle.ceal_base.specs.declared.word.Place.{Place}
use Rattle.ceal_base.specs.declared.word.Word.TheVariants.{Num}
use Rattle.ceal_engine.specs.Calls.{IsRunAnew}
use Rattle.ceal_engine.specs.Engine.{EngineState}
use Rattle.ceal_engine.specs.Marks.{held_at_end, held_at_mark}
use Rattle.ceal_engine.specs.declared.phase.Phase.TheVariants.{Dropped}
use Rattle.ceal_session.specs.Questions.{IsCellOf}
use Rattle.ceal_session.specs.Runs.{present_run}
use Rattle.ceal_session.specs.SessionState.{Held}
use Rattle.ceal_session.specs.Values.{number_of_word, number_after}
use Rattle.ceal_session.specs.declared.handle.Handle.{Handle}

-- the places that handles stand for
abbrev pub places_of : List Handle → List Place
places_of [] = []
places_of (h ∷ hs) = h.place ∷ places_of hs

-- whether a block is an input
abbrev pub is_input : BlockId → Bool
is_input (Input n) = true
is_input (Core n) = false

-- whether a place is that of a field of an input
abbrev pub is_of_input : Place → Bool
is_of_input p = is_input p.block

-- What the engine holds at the end of the run is the number that a line `get` tells, or no number where that tells
-- none.
abbrev pub HoldsNumbers : Held → Type 0
HoldsNumbers k =
    (p : Place) → IsCellOf k.state p → number_of_word (held_at_end k.engine p) ≡ number_after p (present_run k.state)

-- Each modifiable of an input is marked with what it holds at the end of the run, and that of an input which is
-- still to come with 0.
pub record IsMarked (k n : Held) : Type 0 where
  pub there : IsSome n.engine.marked
  pub held : (p : Place) → IsCellOf k.state p → held_at_mark n.engine p ≡ held_at_end k.engine p
  pub later : (input field : ℕ) → length k.state.inputs ≤ input
      → held_at_mark n.engine (record { block = Input input; field = field }) ≡ Num (pos 0)

-- The modifiable of an input holds another word at the end of the run than it is marked with.
pub record HasChanged (k : Held) (p : Place) : Type 0 where
  pub input : ℕ
  pub of_input : p.block ≡ Input input
  pub modifiable : IsCellOf k.state p
  pub differs : held_at_end k.engine p ≢ held_at_mark k.engine p

-- The modifiables are marked, and these are the places of those that have changed, each once, by the number of the
-- input and then by that of the field.
pub record AreChanged (k : Held) (places : List Place) : Type 0 where
  pub marked : IsSome k.engine.marked
  pub only : All (HasChanged k) places
  pub all : (p : Place) → HasChanged k p → count_by (ghosts.eq p) places ≡ 1
  pub sorted : IsSorted order.cmp places

-- What was marked is marked still, unless the call was run from nothing, or there is no run any more.
pub data KeepsMarks (e n : EngineState) : Type 0 where
  still : n.marked ≡ e.marked → KeepsMarks e n
  anew : IsRunAnew n → KeepsMarks e n
  lost : n.phase ≡ Dropped → KeepsMarks e n
