-- Flat items beside the steps of the code: a stack runs, and other stacks wait until the reads end that it is
-- inside of.
use Rattle.std.specs.Prelude.{ℕ, Bool, IsTrue, Option, Some, None, List, [], ◌∷◌, map, reverse}
use Rattle.ceal_base.specs.declared.forest.Item.{Item}
use Rattle.ceal_base.specs.declared.forest.Item.TheVariants.{Step, Alloc, Write, Read, End}
use Rattle.ceal_base.specs.declared.forest.Key.{Key}
use Rattle.ceal_base.specs.declared.forest.UnitId.{UnitId}
use Rattle.ceal_base.specs.declared.word.BlockId.TheVariants.{Core}
use Rattle.ceal_base.specs.declared.word.Place.{Place}
use Rattle.ceal_base.specs.declared.word.Word.{Word}
use Rattle.ceal_code.specs.Init.{pointer}
use Rattle.ceal_code.specs.Program.{Code}
use Rattle.ceal_code.specs.Stacks.{stack_in}
use Rattle.ceal_code.specs.Step.{Stack, Empty, Run, Act, Over, Quiet, Makes, Writes, Reads}
use Rattle.ceal_code.specs.Step.{entered, words_after_read, next}
use Rattle.ceal_code.specs.Tables.{code_in, plain_in}
use Rattle.ceal_code.specs.Value.{Plain, Variables, set}
use Rattle.ceal_code.specs.declared.stack.Stack.{Stack as CodeStack}
use Rattle.ceal_traceck.specs.declared.replay.Walk.{Walk}

-- The items are those of a stack whose next step is this one, and then of the stacks that wait, the innermost first.
-- Each read continues with its recorded value, and each allocation gives its recorded block.
pub data Accepts (code : Code) (x : Plain) : Act → List Stack → List Item → Type 0 where
  ends : Accepts code x Over [] []
  closes : {st : Stack} {below : List Stack} {is : List Item} → Accepts code x (next code x st) below is
      → Accepts code x Over (st ∷ below) (End ∷ is)
  quiet : {st : Stack} {below : List Stack} {is : List Item} → Accepts code x (next code x st) below is
      → Accepts code x (Quiet st) below (Step ∷ is)
  makes : {key : Key} {v u i : ℕ} {env : Variables} {st : Stack} {b : ℕ} {below : List Stack} {is : List Item}
      → Accepts code x (next code x (Run u i (set env v (pointer key (Core b))) st)) below is
      → Accepts code x (Makes key v u i env st) below (Step ∷ Alloc (Core b) key ∷ is)
  writes : {p : Place} {value : Word} {st : Stack} {below : List Stack} {is : List Item}
      → Accepts code x (next code x st) below is → Accepts code x (Writes p value st) below (Step ∷ Write p value ∷ is)
  reads : {p : Place} {u : UnitId} {v : ℕ} {args : List Word} {value : Word} {st : Stack} {below : List Stack}
      {is : List Item}
      → Accepts code x (next code x (entered code u.0 (words_after_read code u.0 v args value) Empty)) (st ∷ below) is
      → Accepts code x (Reads p u v args st) below (Step ∷ Read p value u v args ∷ is)

-- stacks that wait, as the code keeps them, the innermost last
unfoldable pub waiting : List CodeStack → List Stack
waiting stacks = map stack_in (reverse stacks)

-- the code and the plain words of a walk
abbrev pub code_of : Walk → Code
code_of w = code_in w.memory.now

-- the plain words that the walk knows
abbrev pub plain_of : Walk → Plain
plain_of w = plain_in w.memory.now

-- the items that are still to come are those of the stacks, where the running one does this next
abbrev pub Goes : Walk → Act → Type 0
Goes w a = Accepts (code_of w) (plain_of w) a (waiting w.below.items) w.items.now

-- or what it does next
abbrev pub IsRight : Walk → Type 0
IsRight w = Goes w (next (code_of w) (plain_of w) (stack_in w.stack))

-- A turn has told whether the one fact holds, or it has left another fact in its place.
abbrev pub Turned : Option Bool → Type 0 → Type 0 → Type 0
Turned None before after = (before → after) × (after → before)
Turned (Some told) before after = (IsTrue told → before) × (before → IsTrue told)
