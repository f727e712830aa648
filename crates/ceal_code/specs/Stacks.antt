-- The stack of a run, and the next step, as the code keeps them.
use Rattle.std.specs.Prelude.{◌≡◌, ℕ, ◌+◌, ◌-◌, ◌<◌, ◌^◌, Bool, true, false, Option, Some, None, List, [], ◌∷◌, drop}
use Rattle.std.specs.Prelude.{length, reverse, take, if◌then◌else◌}
use Rattle.ceal_base.specs.declared.forest.Key.{Key}
use Rattle.ceal_base.specs.declared.forest.Key.TheVariants.{Init}
use Rattle.ceal_base.specs.declared.word.Word.{Word}
use Rattle.ceal_code.specs.Init.{arguments}
use Rattle.ceal_code.specs.Piles.{Pile, Piles}
use Rattle.ceal_code.specs.Program.{Code}
use Rattle.ceal_code.specs.Step.{Stack, Empty, Run, Act, Over, Quiet, Makes, Writes, Reads, act, command_at, key_of}
use Rattle.ceal_code.specs.Value.{Plain, Variables, values}
use Rattle.ceal_code.specs.declared.command.Cmd.{Cmd}
use Rattle.ceal_code.specs.declared.stack.Activation.{Activation}
use Rattle.ceal_code.specs.declared.stack.Stack.{Stack as CodeStack}
use Rattle.ceal_code.specs.declared.step.Act.{Act as CodeAct}
use Rattle.ceal_code.specs.declared.step.Act.TheVariants.{Over as IsOver, Quiet as IsQuiet, Makes as IsMakes}
use Rattle.ceal_code.specs.declared.step.Act.TheVariants.{Writes as IsWrites, Reads as IsReads}
use Rattle.ceal_code.specs.declared.step.Maker.{Maker}
use Rattle.ceal_code.specs.declared.step.Maker.TheVariants.{Init as IsInit, Modref as IsModref}
use Rattle.ceal_code.specs.declared.step.Making.{Making}
use Rattle.ceal_code.specs.declared.step.Reading.{Reading}
use Rattle.ceal_code.specs.declared.step.Step.{Step as CodeStep}
use Rattle.ceal_code.specs.declared.step.Step.TheVariants.{Over as StepOver, Quiet as StepQuiet, Makes as StepMakes}
use Rattle.ceal_code.specs.declared.step.Step.TheVariants.{Writes as StepWrites, Reads as StepReads}
use Rattle.ceal_code.specs.declared.waits.Waiting.{Waiting}
use Rattle.ceal_code.specs.declared.waits.Floor.{Floor}

-- an activation over other units
abbrev pub over : Activation → Stack → Stack
over a below = Run a.unit a.index (arguments a.env.items) below

-- units that wait, the next one first: its words are the last ones
abbrev pub waiting_on : List Waiting → List Word → Stack
waiting_on [] words = Empty
waiting_on (w ∷ more) words =
    Run w.unit w.index (arguments (drop (length words - w.count) words))
    (waiting_on more (take (length words - w.count) words))

-- the same with the next one last
unfoldable pub waiting : List Waiting → List Word → Stack
waiting units words = waiting_on (reverse units) words

-- units that wait, as the code keeps them
unfoldable pub waits_in : Piles → Stack
waits_in w = waiting w.waits.units w.waits.words

-- of units that are set aside, those above a floor as a stack, and those under it
unfoldable pub above_floor : Floor → Pile → Stack
above_floor floor aside = waiting (drop floor.units aside.units) (drop floor.words aside.words)

abbrev pub under_floor : Floor → Pile → Pile
under_floor floor aside = record { units = take floor.units aside.units; words = take floor.words aside.words }

-- a unit over others, where it runs
abbrev pub topped : Bool → Activation → Stack → Stack
topped true a st = over a st
topped false a st = st

-- the stack that the code keeps
unfoldable pub stack_in : CodeStack → Stack
stack_in s = topped s.runs s.top (waits_in s.waits)

-- the unit that runs, or that ran last
abbrev pub top_of : CodeStack → Activation
top_of s = s.top

-- the units that wait
abbrev pub below_in : CodeStack → Stack
below_in s = waits_in s.waits

-- the units that are set aside
abbrev pub aside_in : CodeStack → Pile
aside_in s = s.waits.aside

-- how many units wait
abbrev pub below_count : CodeStack → ℕ
below_count s = length s.waits.waits.units

-- how many units it has
abbrev pub left_in : CodeStack → ℕ
left_in s = length s.waits.waits.units + (if s.runs then 1 else 0)

-- the next of the units that wait has begun, or there is none
abbrev pub Began : Bool → Piles → Activation → Piles → Type 0
Began true old a new = waits_in old ≡ over a (waits_in new)
Began false old a new = (waits_in old ≡ Empty) × (waits_in new ≡ Empty)

-- the stack of a unit that takes the next step, or where there is none the rest
abbrev pub landing : {A : Type 0} → Option A → CodeStack → Stack → Stack
landing None s rest = rest
landing (Some c) s rest = stack_in s

-- a unit runs, and the command is its next one
pub record Stands (code : Code) (c : Cmd) (s : CodeStack) : Type 0 where
  pub runs : s.runs ≡ true
  pub command : c ≡ command_at code s.top.unit s.top.index
  pub small : s.top.index < 2 ^ 63

-- what is done next, and the stack after it
abbrev pub act_in : CodeAct → Stack → Act
act_in IsOver st = Over
act_in IsQuiet st = Quiet st
act_in (IsMakes key v a) st = Makes key v a.unit a.index (arguments a.env.items) st
act_in (IsWrites p value) st = Writes p value st
act_in (IsReads c) st = Reads c.place c.unit c.var c.args st

-- the step of a command of a unit over others
abbrev pub act_on : Code → Plain → Cmd → Activation → Stack → Act
act_on code x c a below = act code x c a.unit a.index (arguments a.env.items) below

-- the key of a block that is made in a unit with these variables
abbrev pub key_made : Code → Plain → Maker → Variables → Key
key_made code x (IsInit f args) env = Init f (values code.structs x env args.now)
key_made code x (IsModref shape) env = key_of shape

-- what a block that is made does, and a read
abbrev pub making_in : Code → Plain → Making → ℕ → ℕ → Variables → Stack → Act
making_in code x m u i env below = Makes (key_made code x m.maker env) m.var u i env below

abbrev pub reading_in : Code → Plain → Reading → Variables → Stack → Act
reading_in code x r env below = Reads r.place r.unit r.var (values code.structs x env r.args.now) below

-- what is done next, where arguments are not evaluated yet
abbrev pub step_in : Code → Plain → CodeStep → CodeStack → Act
step_in code x StepOver s = Over
step_in code x StepQuiet s = Quiet (stack_in s)
step_in code x (StepMakes m) s =
    making_in code x m s.top.unit s.top.index (arguments s.top.env.items) (waits_in s.waits)
step_in code x (StepWrites p value) s = Writes p value (stack_in s)
step_in code x (StepReads r) s = reading_in code x r (arguments s.top.env.items) (waits_in s.waits)
