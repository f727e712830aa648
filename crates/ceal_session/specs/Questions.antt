-- When a question can be answered.
use Rattle.std.specs.Prelude.{◌≡◌, ℕ, ◌≤◌, ◌<◌, true, false, Option, Some, None, List, length}
use Rattle.ceal_base.specs.Access.{content_of}
use Rattle.ceal_base.specs.Finished.{Finished}
use Rattle.ceal_base.specs.Fitting.{kind_at}
use Rattle.ceal_base.specs.declared.word.Place.{Place}
use Rattle.ceal_base.specs.declared.word.Word.TheVariants.{At, Null}
use Rattle.ceal_code.specs.Value.{is_cell}
use Rattle.ceal_script.specs.declared.command.Command.{Command}
use Rattle.ceal_script.specs.declared.command.Command.TheVariants.{Slice}
use Rattle.ceal_session.specs.Runs.{memory_of}
use Rattle.ceal_session.specs.State.{State}
use Rattle.ceal_session.specs.Steps.{has_no_run}
use Rattle.ceal_session.specs.Texts.{value_text}
use Rattle.ceal_session.specs.declared.reply.Query.{Query}
use Rattle.ceal_session.specs.declared.reply.Query.TheVariants.{Get, Show, Blocks, Steps, Work, Bound}
use Rattle.ceal_session.specs.declared.reply.Reply.{Reply}
use Rattle.ceal_session.specs.declared.reply.Reply.TheVariants.{Nothing, Ok, OutOfFuel, More, Done, Refused, Told}
use Rattle.ceal_session.specs.declared.sense.Sense.{Sense}
use Rattle.ceal_session.specs.declared.sense.Sense.TheVariants.{Word as IsWord}

-- there is a run that was not out of fuel, and neither an edit nor a repair is pending
pub record IsReady (s : State) : Type 0 where
  pub run : has_no_run s ≡ false
  pub edited : s.pending ≡ false

-- the place is that of a modifiable of an input
abbrev pub IsCellOf : State → Place → Type 0
IsCellOf s p = is_cell (kind_at s.program.structs (memory_of s) p) ≡ true

abbrev pub IsCellSense : State → Sense → Type 0
IsCellSense s (IsWord (At p)) = IsCellOf s p
IsCellSense s _ = Unit {0}

-- what the question is about is there
abbrev pub IsFor : State → Query → Type 0
IsFor s (Get p) = IsCellOf s p
IsFor s (Show n) = n < length s.inputs
IsFor s Blocks = Unit {0}
IsFor s Steps = Unit {0}
IsFor s Work = Unit {0}
IsFor s Bound = Unit {0}

abbrev pub CanTell : State → Reply → Type 0
CanTell s Nothing = Unit {0}
CanTell s Ok = Unit {0}
CanTell s OutOfFuel = Unit {0}
CanTell s More = Unit {0}
CanTell s Done = Unit {0}
CanTell s (Refused r) = Unit {0}
CanTell s (Told q) = IsReady s × IsFor s q

-- a part of a repair re-executes at least one stale read
abbrev pub HasReads : Command → Type 0
HasReads (Slice reads) = 1 ≤ reads
HasReads _ = Unit {0}

-- what a run has, where there is one
abbrev pub steps_in : Option Finished → Option ℕ
steps_in None = None
steps_in (Some f) = Some f.steps

abbrev pub blocks_in : Option Finished → Option ℕ
blocks_in None = None
blocks_in (Some f) = Some f.blocks

-- what a modifiable holds, as it is printed
abbrev pub content_text : State → Place → Option Finished → Option (List ℕ)
content_text s p None = None
content_text s p (Some f) = Some (value_text s (content_of f.memory (At p) Null))
