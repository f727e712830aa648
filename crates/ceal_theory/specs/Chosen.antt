-- A repair, one move at a time, where the numbers of new blocks are chosen as it goes.
use Rattle.std.specs.Prelude.{◌≡◌, ℕ, ◌+◌, ◌≤◌, ◌<◌, Some, None, List, [], ◌∷◌, ◌++◌, length, slice_get}
use Rattle.ceal_base.specs.Block.{Block}
use Rattle.ceal_base.specs.Trace.{Trace, Nothing, flat, steps_of, blocks_of}
use Rattle.ceal_base.specs.declared.forest.Item.{Item}
use Rattle.ceal_base.specs.declared.word.BlockId.{BlockId}
use Rattle.ceal_base.specs.declared.word.Word.{Word}
use Rattle.ceal_code.specs.Determined.{Determined}
use Rattle.ceal_code.specs.Fitting.{Fits}
use Rattle.ceal_code.specs.Fresh.{fresh}
use Rattle.ceal_code.specs.Program.{Code}
use Rattle.ceal_code.specs.Replay.{Honest, bases, In, Distinct, count, core_numbers, input_plain, plain_of}
use Rattle.ceal_code.specs.Step.{started}
use Rattle.ceal_theory.specs.Computed.{Repaired, adjusted, first_of}
use Rattle.ceal_theory.specs.Laws.{Edited}
use Rattle.ceal_theory.specs.Named.{Named, then_from}
use Rattle.ceal_theory.specs.Repair.{State, begins}
use Rattle.ceal_theory.specs.Moves.{Machine, Fixing, Running, Bottom, Ended, next_move, BecomesBy}

-- the names continue these numbers
abbrev pub Continues : List ℕ → (ℕ → ℕ) → Type 0
Continues bs names = (k b : ℕ) → slice_get bs k ≡ Some b → names k ≡ b

-- The machine that began has become this one and has written these items, and has given its new blocks these numbers:
-- so it is with all names that continue them.
pub record ComesBy (code : Code) (start m : Machine) (chosen : List ℕ) (out : List Item) : Type 0 where
  pub number : m.state.number ≡ length chosen
  pub leads : (names : ℕ → ℕ) → Continues chosen names → BecomesBy code names start m out

-- the numbers that were chosen are distinct, and no block of the trace has one of them
pub record Free (chosen : List ℕ) (l : Trace) : Type 0 where
  pub distinct : Distinct chosen
  pub apart : (b : ℕ) → In b chosen → count b (core_numbers (blocks_of l)) ≡ 0

-- A repair that has ended in a state: its items are those of the repair with the chosen numbers in place of the new
-- ones, and its work is that of the repair. They determine the run from scratch, where the contents are those of the
-- state at the end; their blocks have the plain words that the state has.
pub record EndedRepair
    (code : Code) (old new : List Block) (f : ℕ) (args : List Word) (l : Trace) (number : ℕ)
    (chosen : List ℕ) (after : State) (out : List Item) : Type 0 where
  pub bound : ℕ
  pub a : Repaired
  pub is : (n : ℕ) → after.work ≤ n → adjusted code new number n l ≡ Some a
  pub counted : a.work ≡ after.work
  pub items : Trace
  pub flat_form : out ≡ flat items
  pub named : Named code new f args l number (then_from chosen bound) a.items items
  pub walk : Honest code (bases code new) items after.store
  pub determined : Determined code new f args items after.store
  pub words : (b : BlockId) (block : Block) → plain_of code new items b ≡ Some block → after.plain b ≡ Some block

-- so with a first trace, each of whose steps is work
pub record EndedFirst
    (code : Code) (inputs : List Block) (f : ℕ) (args : List Word) (chosen : List ℕ)
    (after : State) (out : List Item) : Type 0 where
  pub bound : ℕ
  pub a : Repaired
  pub is : (n : ℕ) → after.work ≤ n → first_of code inputs n f args ≡ Some a
  pub counted : a.work ≡ after.work
  pub items : Trace
  pub flat_form : out ≡ flat items
  pub named : Named code inputs f args Nothing 0 (then_from chosen bound) a.items items
  pub steps : steps_of items ≡ after.work
  pub walk : Honest code (bases code inputs) items after.store
  pub determined : Determined code inputs f args items after.store
  pub words : (b : BlockId) (block : Block) → plain_of code inputs items b ≡ Some block → after.plain b ≡ Some block

-- the machine of a repair at its beginning, and that of a first trace
abbrev pub repair_begins : Code → List Block → Trace → Machine
repair_begins code new l = record { state = begins code new (plain_of code new l) 0; mode = Fixing l; frames = Bottom }

-- the machine that makes a first trace, at its beginning
abbrev pub first_begins : Code → List Block → ℕ → List Word → Machine
first_begins code inputs f args = record {
  state = begins code inputs (input_plain code inputs) 0;
  mode = Running (started code f args) Nothing;
  frames = Bottom;
}

-- what holds of names that are chosen one move at a time
pub record ChosenLaws (code : Code) : Type 0 where
  -- at a beginning, where some numbers were handed out before; after what all names have in common; and after
  -- a move that makes a block of any number
  pub begun : (m : Machine) (chosen : List ℕ) → m.state.number ≡ length chosen → ComesBy code m m chosen []
  pub more : (start m m' : Machine) (chosen : List ℕ) (out is : List Item) → ComesBy code start m chosen out
      → ((names : ℕ → ℕ) → BecomesBy code names m m' is) → m'.state.number ≡ m.state.number
      → ComesBy code start m' chosen (out ++ is)
  pub numbered : (start m m' : Machine) (chosen : List ℕ) (out is : List Item) → ComesBy code start m chosen out
      → (b : ℕ) → ((names : ℕ → ℕ) → names m.state.number ≡ b → BecomesBy code names m m' is)
      → m'.state.number ≡ m.state.number + 1 → ComesBy code start m' (chosen ++ b ∷ []) (out ++ is)
  -- where the machine has ended
  pub ends : (old new : List Block) (f : ℕ) (args : List Word) (l : Trace) (number : ℕ)
      → Edited code old new f args l number
      → (m : Machine) (chosen : List ℕ) (out : List Item) → ComesBy code (repair_begins code new l) m chosen out
      → Free chosen l
      → ((names : ℕ → ℕ) → next_move code names m ≡ Ended)
      → EndedRepair code old new f args l number chosen m.state out
  -- where its work is more than the run from scratch may take
  pub over : (old new : List Block) (f : ℕ) (args : List Word) (l : Trace) (number : ℕ)
      → Edited code old new f args l number
      → (m : Machine) (chosen : List ℕ) (out : List Item) → ComesBy code (repair_begins code new l) m chosen out
      → Free chosen l
      → (fuel : ℕ) → fuel < m.state.work → fresh code f args new fuel ≡ None
  pub first_ends : (inputs : List Block) (f : ℕ) (args : List Word) → Fits code inputs f args
      → (m : Machine) (chosen : List ℕ) (out : List Item)
      → ComesBy code (first_begins code inputs f args) m chosen out → Distinct chosen
      → ((names : ℕ → ℕ) → next_move code names m ≡ Ended)
      → EndedFirst code inputs f args chosen m.state out
  pub first_over : (inputs : List Block) (f : ℕ) (args : List Word) → Fits code inputs f args
      → (m : Machine) (chosen : List ℕ) (out : List Item)
      → ComesBy code (first_begins code inputs f args) m chosen out → Distinct chosen
      → (fuel : ℕ) → fuel < m.state.work → fresh code f args inputs fuel ≡ None

-- It holds of all code.
abbrev pub ChosenLaw : Type 0
ChosenLaw = (code : Code) → ChosenLaws code
