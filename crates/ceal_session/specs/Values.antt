-- Values without text: the numbers that modifiables hold, and handles of modifiables.
use Rattle.std.specs.Prelude.{◌≡◌, ℤ, Option, Some, None, Result, Ok, Err, if◌then◌else◌, ⊤}
use Rattle.ceal_base.specs.Access.{content_of}
use Rattle.ceal_base.specs.Finished.{Finished}
use Rattle.ceal_base.specs.Fitting.{kind_at}
use Rattle.ceal_base.specs.declared.word.Place.{Place}
use Rattle.ceal_base.specs.declared.word.Word.{Word}
use Rattle.ceal_base.specs.declared.word.Word.TheVariants.{Num, Null, Block, At}
use Rattle.ceal_code.specs.Value.{is_cell}
use Rattle.ceal_script.specs.declared.command.Command.{Command}
use Rattle.ceal_script.specs.declared.command.Command.TheVariants.{Get}
use Rattle.ceal_session.specs.Runs.{memory_of, present_run}
use Rattle.ceal_session.specs.Senses.{place_sense, is_unknown}
use Rattle.ceal_session.specs.State.{State}
use Rattle.ceal_session.specs.Steps.{reply_to_get}
use Rattle.ceal_session.specs.declared.handle.Handle.{Handle}
use Rattle.ceal_session.specs.declared.refusal.Refusal.{Refusal}
use Rattle.ceal_session.specs.declared.refusal.Refusal.TheVariants.{C1, C2, C4, C7}
use Rattle.ceal_session.specs.declared.reply.Query.TheVariants.{Get as GetOf}
use Rattle.ceal_session.specs.declared.reply.Reply.{Reply}
use Rattle.ceal_session.specs.declared.reply.Reply.TheVariants.{Refused, Told}
use Rattle.ceal_session.specs.declared.sense.Sense.{Sense}
use Rattle.ceal_session.specs.declared.sense.Sense.TheVariants.{Plain, Word as IsWord}
use Rattle.ceal_session.specs.declared.value_error.ValueError.{ValueError}
use Rattle.ceal_session.specs.declared.value_error.ValueError.TheVariants.{Memory as NoMemory, Refused as IsRefused}

-- the number that a word is; a pointer is of the wrong kind
abbrev pub number_of_word : Word → Result ℤ Refusal
number_of_word (Num n) = Ok n
number_of_word Null = Err C4
number_of_word (Block b) = Err C4
number_of_word (At p) = Err C4

-- the number that a modifiable holds after a run
abbrev pub number_after : Place → Option Finished → Result ℤ Refusal
number_after p None = Err C7
number_after p (Some f) = number_of_word (content_of f.memory (At p) Null)

-- the number that a reply to `get` tells, by the run from scratch on the inputs of this moment
abbrev pub number_of_reply : State → Reply → Result ℤ Refusal
number_of_reply s (Told (GetOf p)) = number_after p (present_run s)
number_of_reply s (Refused r) = Err r
number_of_reply s _ = Err C4

abbrev pub number_of_sense : State → Sense → Result ℤ Refusal
number_of_sense s sense = number_of_reply s (reply_to_get s sense)

-- the number that a line `get` asks for; no other line asks for one
abbrev pub number_of_command : State → Option Command → Result ℤ Refusal
number_of_command s (Some (Get place)) = number_of_sense s (place_sense s place)
number_of_command s _ = Err C1

-- what a handle stands for: the modifiable at its place, if there is one
abbrev pub sense_of_handle : State → Handle → Sense
sense_of_handle s h =
    if is_cell (kind_at s.program.structs (memory_of s) h.place) then IsWord (At h.place) else Plain

-- the handle of the modifiable that a place of a line stands for
abbrev pub handle_of_sense : Sense → Result Handle Refusal
handle_of_sense (IsWord (At p)) = Ok (record { place = p })
handle_of_sense sense = if is_unknown sense then Err C2 else Err C4

-- the handle of the modifiable that a line `get` asks for
abbrev pub handle_of_command : State → Option Command → Result Handle Refusal
handle_of_command s (Some (Get place)) = handle_of_sense (place_sense s place)
handle_of_command s _ = Err C1

-- The answer is this one, unless there was no memory.
abbrev pub Gives : {A : Type 0} → Result A ValueError → Result A Refusal → Type 0
Gives (Ok x) wanted = wanted ≡ Ok x
Gives (Err (IsRefused r)) wanted = wanted ≡ Err r
Gives (Err NoMemory) wanted = ⊤

-- so it is where the answer is a refusal
abbrev pub IfRefused : {A : Type 0} → Result A ValueError → (Refusal → Type 0) → Type 0
IfRefused (Ok x) P = ⊤
IfRefused (Err (IsRefused r)) P = P r
IfRefused (Err NoMemory) P = ⊤
