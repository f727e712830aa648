-- The machine of repair as the code keeps it, which has a place in the old items.
use Rattle.std.specs.Prelude.{ℕ, Bool, true, false, Option, Some, None, List, [], ◌∷◌, drop, reverse}
use Rattle.ceal_base.specs.Trace.{Trace}
use Rattle.ceal_base.specs.declared.forest.Item.{Item}
use Rattle.ceal_base.specs.declared.forest.Item.TheVariants.{Step}
use Rattle.ceal_code.specs.Program.{Code}
use Rattle.ceal_code.specs.Stacks.{stack_in}
use Rattle.ceal_code.specs.Tables.{code_in, plain_in, store_in}
use Rattle.ceal_code.specs.declared.stack.Stack.{Stack as CodeStack}
use Rattle.ceal_theory.specs.Levels.{first, around, levels, loose, beyond}
use Rattle.ceal_theory.specs.Repair.{State}
use Rattle.ceal_theory.specs.Moves.{Fixing, Running, Frames, Bottom, AfterFix, AfterMend, AfterRun, Machine, Move}
use Rattle.ceal_theory.specs.Moves.{Ended, Went}
use Rattle.ceal_adjust.specs.declared.frame.Frame.{Frame}
use Rattle.ceal_adjust.specs.declared.frame.Frame.TheVariants.{Fix, Mend, Run}
use Rattle.ceal_adjust.specs.declared.frame.Mode.{Mode as CodeMode}
use Rattle.ceal_adjust.specs.declared.frame.Mode.TheVariants.{Fixing as IsFixing, Running as IsRunning}
use Rattle.ceal_adjust.specs.declared.frame.Turn.{Turn as CodeTurn}
use Rattle.ceal_adjust.specs.declared.frame.Turn.TheVariants.{Ended as HasEnded, Went as HasGone}
use Rattle.ceal_adjust.specs.declared.repair.Repair.{Repair}

-- the code of a repair
abbrev pub code_of : Repair → Code
code_of r = code_in r.memory

-- its store, its plain words, the number of the next new block, and the work so far
abbrev pub state_in : Repair → State
state_in r = record {
  store = store_in r.memory;
  plain = plain_in r.memory;
  number = r.number;
  work = r.work;
}

-- what follows, the next first, where these levels are around the items of now
abbrev pub frames_in : List Frame → List Trace → Frames
frames_in [] ts = Bottom
frames_in (Fix ∷ fs) ts = AfterFix (first ts) (frames_in fs (around ts))
frames_in (Mend below n ∷ fs) ts = AfterMend (stack_in below) (loose n ts) (frames_in fs (beyond n ts))
frames_in (Run below ∷ fs) ts = AfterRun (stack_in below) (frames_in fs ts)

-- the levels of the old items from the cursor on
abbrev pub ahead : Repair → List Trace
ahead r = levels (drop r.rest r.items)

-- what follows them
abbrev pub after : Repair → ℕ → Frames
after r n = frames_in (reverse r.frames.items) (beyond n (ahead r))

-- what the running stack has left over
abbrev pub left_over : Repair → Trace
left_over r = loose r.levels (ahead r)

-- the machine in a mode, by the frames and the levels of what is left over
abbrev pub machine_at : CodeMode → State → CodeStack → ℕ → List Frame → List Trace → Machine
machine_at IsFixing s stack n fs ts = record { state = s; mode = Fixing (first ts); frames = frames_in fs (around ts) }
machine_at IsRunning s stack n fs ts =
    record { state = s; mode = Running (stack_in stack) (loose n ts); frames = frames_in fs (beyond n ts) }

-- the same by what is left over as items
unfoldable pub machine_of : CodeMode → State → CodeStack → ℕ → List Frame → List Item → Machine
machine_of mode s stack n fs is = machine_at mode s stack n (reverse fs) (levels is)

-- the machine
abbrev pub machine_in : Repair → Machine
machine_in r = machine_of r.mode (state_in r) r.stack r.levels r.frames.items (drop r.rest r.items)

-- an item, if there is one, as a list
abbrev pub item_list : Option Item → List Item
item_list None = []
item_list (Some i) = i ∷ []

-- the items that a turn writes: a step, if it took one, and then its item
abbrev pub written : Bool → Option Item → List Item
written true i = Step ∷ item_list i
written false i = item_list i

-- a turn, where the machine after it is this one
abbrev pub turn_in : CodeTurn → Machine → Move
turn_in HasEnded m = Ended
turn_in (HasGone stepped i) m = Went (written stepped i) m
