-- A repair under way in code.
use Rattle.std.specs.Prelude.{◌≡◌, ℕ, ◌≤◌, ◌<◌, Bool, true, false, Option, Some, None, List, [], ◌∷◌, reverse}
use Rattle.ceal_base.specs.Block.{Block}
use Rattle.ceal_base.specs.declared.forest.Key.{Key}
use Rattle.ceal_base.specs.declared.word.Word.{Word}
use Rattle.ceal_code.specs.Program.{Code}
use Rattle.ceal_code.specs.Stacks.{stack_in, aside_in, above_floor, under_floor, top_of, below_in, act_in, step_in}
use Rattle.ceal_code.specs.Step.{Stack, Act as Step, Over, next}
use Rattle.ceal_code.specs.declared.stack.Stack.{Stack as CodeStack}
use Rattle.ceal_code.specs.declared.step.Act.{Act}
use Rattle.ceal_code.specs.declared.step.Act.TheVariants.{Makes}
use Rattle.ceal_code.specs.declared.step.Step.{Step as CodeStep}
use Rattle.ceal_code.specs.declared.waits.Floor.{Floor}
use Rattle.ceal_order.specs.declared.stamp.Stamp.{Stamp}
use Rattle.ceal_repair.specs.Frames.{Begun, frames_in}
use Rattle.ceal_repair.specs.Looks.{Account, KeepsMarks, NoneDiffers, ends_ahead, touched_ahead}
use Rattle.ceal_repair.specs.Moment.{View, Start, RunningNow, PassingNow}
use Rattle.ceal_repair.specs.Words.{words_of}
use Rattle.ceal_repair.specs.declared.frame.Frame.{Frame}
use Rattle.ceal_repair.specs.declared.repair.Repair.{Repair}
use Rattle.ceal_repair.specs.declared.running.Running.{Running}
use Rattle.ceal_repair.specs.Lists.{between}
use Rattle.ceal_trace.specs.Nodes.{Entry}

abbrev pub code_of : Repair → Code
code_of r = r.code.now

abbrev pub inputs_of : Repair → List Block
inputs_of r = r.inputs.now

-- what the run keeps that is repaired
abbrev pub running_of : Repair → Running
running_of r = r.running.now

-- the units of the repair
abbrev pub stack_of : Repair → CodeStack
stack_of r = r.stack.now

-- the arguments of the read that its unit makes
abbrev pub arguments_of : Repair → List Word
arguments_of r = r.args.now.items

-- what follows the ends of reads, the next last
abbrev pub frames_of : Repair → List Frame
frames_of r = r.frames.now.items

abbrev pub view : Repair → View
view r = record {
  tables = (running_of r).tables;
  heap = (running_of r).heap;
  spent = (running_of r).spent;
  cursor = r.cursor.0;
  limit = r.limit;
  frames = frames_in (aside_in (stack_of r)) (reverse (frames_of r));
}

-- what is paid: the frames say which ends are still to come
abbrev pub account : Repair → Account
account r = record {
  tables = (running_of r).tables;
  cursor = r.cursor.0;
  spent = (running_of r).spent;
  ahead = touched_ahead (frames_of r);
  ends = ends_ahead (frames_of r);
}

-- A run from nothing has no limit, since nothing is left over to it. It stays without one, and no content differs.
abbrev pub StaysAnew : Repair → Repair → Type 0
StaysAnew old new = old.limit ≡ None
    → (new.limit ≡ None) × NoneDiffers (running_of old).tables (running_of new).tables

-- the units that are set aside on a floor
abbrev pub units_on : Floor → Repair → Stack
units_on floor r = above_floor floor (aside_in (stack_of r))

-- the parts of a repair without those units
abbrev pub view_under : Floor → Repair → View
view_under floor r =
    record (view r) { frames = frames_in (under_floor floor (aside_in (stack_of r))) (reverse (frames_of r)) }

-- the next step of a stack over the plain words of a repair
abbrev pub next_in : Repair → Stack → Step
next_in r st = next (code_of r) (words_of (code_of r) (inputs_of r) (running_of r).heap) st

-- what a step of its stack does, whose arguments are not evaluated yet
abbrev pub step_of : Repair → CodeStep → Step
step_of r s = step_in (code_of r) (words_of (code_of r) (inputs_of r) (running_of r).heap) s (stack_of r)

-- a unit runs: that of this stack, or the one that the repair keeps
abbrev pub RunsAt : Start → Stack → Repair → Type 0
RunsAt start st r = RunningNow (code_of r) (inputs_of r) start st (view r)

abbrev pub Runs : Start → Repair → Type 0
Runs start r = RunsAt start (stack_in (stack_of r)) r

-- a unit runs, and this is what it does next, over these units
pub record ActsOver (start : Start) (act : Act) (below : Stack) (r : Repair) : Type 0 where
  pub stack : Stack
  pub now : RunsAt start stack r
  pub does : next_in r stack ≡ act_in act below

-- the stack that is kept is that after what the unit does
abbrev pub Acts : Start → Act → Repair → Type 0
Acts start act r = ActsOver start act (stack_in (stack_of r)) r

-- the unit makes a block for the key, which its variable gets; the unit is still on the stack
abbrev pub ActsMaking : Start → Key → ℕ → Repair → Type 0
ActsMaking start key var r = ActsOver start (Makes key var (top_of (stack_of r))) (below_in (stack_of r)) r

-- the unit is over, and nothing follows
pub record IsOver (start : Start) (r : Repair) : Type 0 where
  pub stack : Stack
  pub now : RunsAt start stack r
  pub over : next_in r stack ≡ Over
  pub last : frames_of r ≡ []

-- kept nodes are passed
abbrev pub PassesOn : Start → Repair → Type 0
PassesOn start r = (until : Stamp) × PassingNow (code_of r) (inputs_of r) start until (view r)

-- the code and the inputs stay, and so do the place of what the run keeps and what was marked
pub record SameCall (old new : Repair) : Type 0 where
  pub code : code_of new ≡ code_of old
  pub inputs : inputs_of new ≡ inputs_of old
  pub place : new.running.ghost_name ≡ old.running.ghost_name
  pub marks : KeepsMarks (running_of old).tables (running_of new).tables

-- the unit of a new read is over; its frame was taken off
pub record EndsRead (start : Start) (below : Floor) (read : Stamp) (r : Repair) : Type 0 where
  pub stack : Stack
  pub now : RunningNow (code_of r) (inputs_of r) start stack
      (record (view_under below r) { frames = Begun (units_on below r) read ∷ (view_under below r).frames })
  pub over : next_in r stack ≡ Over

-- the nodes after a cursor up to the limit; without a limit none is left over
abbrev pub nodes_to : Option Stamp → ℕ → List Entry → List Entry
nodes_to None cursor nodes = []
nodes_to (Some e) cursor nodes = between cursor e.0 nodes

abbrev pub left_nodes : Repair → List Entry
left_nodes r = nodes_to r.limit r.cursor.0 (running_of r).tables.trace.nodes

-- a repair after an act of its unit: it continues, or it is over
abbrev pub RunsOrEnds : Bool → Start → Repair → Type 0
RunsOrEnds true start r = Runs start r
RunsOrEnds false start r = IsOver start r

-- a repair is over within the fuel, or has run more steps than that
abbrev pub EndsWithin : Bool → ℕ → Start → Repair → Type 0
EndsWithin true fuel start r = IsOver start r × ((view r).spent ≤ fuel)
EndsWithin false fuel start r = Runs start r × (fuel < (view r).spent)
