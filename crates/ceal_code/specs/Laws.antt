-- Laws of trace code.
use Rattle.std.specs.Prelude.{◌≡◌, ℕ, ◌≤◌, Bool, true, Some, None, List, [], length, slice_get}
use Rattle.ceal_base.specs.Block.{Block, Blocks, block_at}
use Rattle.ceal_base.specs.Finished.{Finished}
use Rattle.ceal_base.specs.Trace.{Trace}
use Rattle.ceal_base.specs.declared.forest.Key.{Key}
use Rattle.ceal_base.specs.declared.word.Word.{Word}
use Rattle.ceal_code.specs.Alike.{Pairs, KeyAlike, StackAlike, ActAlike, BlockAlike, PlainAlike, OneToOne}
use Rattle.ceal_code.specs.Determined.{Determined}
use Rattle.ceal_code.specs.Fitting.{Fits}
use Rattle.ceal_code.specs.Fresh.{fresh}
use Rattle.ceal_code.specs.Init.{made}
use Rattle.ceal_code.specs.Known.{Agree, Holds, KnownStack, KnownAct}
use Rattle.ceal_code.specs.Over.{on, act_on}
use Rattle.ceal_code.specs.OnPath.{IsOnPath, IsReached}
use Rattle.ceal_code.specs.Program.{Unit, Code}
use Rattle.ceal_code.specs.Replay.{KnownWords, KnownKey, Replays, IsHonest}
use Rattle.ceal_code.specs.Running.{Takes, Reaches, NotStuck}
use Rattle.ceal_code.specs.Step.{Stack, Over, started, next}
use Rattle.ceal_code.specs.Valid.{command_ok, valid}
use Rattle.ceal_code.specs.Value.{Plain}
use Rattle.ceal_code.specs.declared.command.Cmd.{Cmd}

-- where a stack names only known blocks, and these name only known blocks, the next step names no other, and is
-- the same over any plain words that agree on the known blocks
abbrev pub StepLaw : Type 0
StepLaw = (code : Code) (inputs : ℕ) (bs : List ℕ) (x y : Plain) → Holds inputs bs x → Agree inputs bs x y
    → (st : Stack) → KnownStack inputs bs st → KnownAct inputs bs (next code x st) × (next code x st ≡ next code y st)

-- so is what a new block holds, where its key names only known blocks
abbrev pub BlockLaw : Type 0
BlockLaw = (code : Code) (inputs : ℕ) (bs : List ℕ) (x y : Plain) → Holds inputs bs x → Agree inputs bs x y
    → (key : Key) → KnownKey inputs bs key
    → KnownWords inputs bs (made code x key).words × (made code x key ≡ made code y key)

-- a stack over another one takes its own step, and the other one's where nothing of it is left
abbrev pub OverLaw : Type 0
OverLaw = (code : Code) (x : Plain) (st below : Stack)
    → next code x (on st below) ≡ act_on (next code x st) below (next code x below)

-- a step does not depend on the numbers of core blocks: like stacks over like plain words have like next steps,
-- and like keys make like blocks
abbrev pub AlikeLaw : Type 0
AlikeLaw = (code : Code) (ps : Pairs) → OneToOne ps → (x y : Plain) → PlainAlike code.structs ps x y
    → ((st st' : Stack) → StackAlike ps st st' → ActAlike ps (next code x st) (next code y st'))
    × ((key key' : Key) → KeyAlike ps key key' → BlockAlike code.structs ps (made code x key) (made code y key'))

-- a trace that replays a call and is honest determines the run of the call from scratch
abbrev pub TraceLaw : Type 0
TraceLaw = (code : Code) (inputs : List Block) (f : ℕ) (args : List Word) → Fits code inputs f args
    → (l : Trace) → Replays code inputs f args l → (h : IsHonest code inputs l)
    → Determined code inputs f args l h.after

-- in valid code some path reaches each command of a unit's body, and the command is right for what is known on each
-- path to it
abbrev pub PathLaw : Type 0
PathLaw = (code : Code) → valid code ≡ true → (u : ℕ) (unit : Unit) → slice_get code.units u ≡ Some unit
    → (i : ℕ) (c : Cmd) → slice_get unit.body i ≡ Some c → IsReached code unit i
    × ((known : List Bool) (stepped : Bool)
    → IsOnPath code unit i known stepped → command_ok code unit.function known stepped c ≡ true)

-- valid code is never stuck
abbrev pub ProgressLaw : Type 0
ProgressLaw = (code : Code) → valid code ≡ true
    → (inputs : List Block) (f : ℕ) (args : List Word) → Fits code inputs f args
    → (m : Blocks) (st : Stack)
    → Reaches code (record { inputs = inputs; made = [] }) (started code f args) m st → NotStuck code m st

-- a finished run is at a state that it reached in as many steps as it tells, and at the end
pub record Ended (code : Code) (inputs : List Block) (f : ℕ) (args : List Word) (r : Finished) : Type 0 where
  pub stack : Stack
  pub takes : Takes code (record { inputs = inputs; made = [] }) (started code f args) r.steps r.memory stack
  pub reaches : Reaches code (record { inputs = inputs; made = [] }) (started code f args) r.memory stack
  pub over : next code (block_at r.memory) stack ≡ Over

-- a run is at a state that it reached in `steps` steps, and continues from there
pub record GoesFurther (code : Code) (inputs : List Block) (f : ℕ) (args : List Word) (steps : ℕ) : Type 0 where
  pub memory : Blocks
  pub stack : Stack
  pub takes : Takes code (record { inputs = inputs; made = [] }) (started code f args) steps memory stack
  pub reaches : Reaches code (record { inputs = inputs; made = [] }) (started code f args) memory stack
  pub goes_on : next code (block_at memory) stack ≡ Over → ⊥

-- Whatever the fuel, a run that finishes within it is at such an end.
abbrev pub EndedLaw : Type 0
EndedLaw = (code : Code) (inputs : List Block) (f : ℕ) (args : List Word) (fuel : ℕ) (r : Finished)
    → fresh code f args inputs fuel ≡ Some r → Ended code inputs f args r × (r.steps ≤ fuel)

-- And a run that does not finish within it is, after as many steps as there is fuel, at such a state.
abbrev pub StateLaw : Type 0
StateLaw = (code : Code) (inputs : List Block) (f : ℕ) (args : List Word) (fuel : ℕ)
    → fresh code f args inputs fuel ≡ None → GoesFurther code inputs f args fuel

-- and it makes no input
abbrev pub InputsLaw : Type 0
InputsLaw = (code : Code) (inputs : List Block) (f : ℕ) (args : List Word) (fuel : ℕ) (r : Finished)
    → fresh code f args inputs fuel ≡ Some r → length r.memory.inputs ≡ length inputs
