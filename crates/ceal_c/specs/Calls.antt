-- What calls do to a session that is open, and to what C keeps.
use Rattle.std.specs.Fmt.{decimal, signed_decimal}
use Rattle.std.specs.Prelude.{◌≡◌, ◌++◌, ◌<◌, ◌⊎◌, ℕ, ℤ, Option, Some, None, Ok, Err, List, [], codes, length}
use Rattle.ceal_base.specs.declared.fault.Fault.{Fault}
use Rattle.ceal_base.specs.declared.word.Word.TheVariants.{Num}
use Rattle.ceal_compile.specs.Compiled.{IsCompiled}
use Rattle.ceal_compile.specs.FaultLine.{fault_line as line_of}
use Rattle.ceal_compile.specs.Source.{IsFirstFault, IsProgram}
use Rattle.ceal_compile.specs.declared.program.Program.{Program}
use Rattle.ceal_script.specs.declared.command.Command.{Command}
use Rattle.ceal_session.specs.AfterLine.{situation_at_start, IsAfterNoMemory}
use Rattle.ceal_session.specs.Questions.{IsReady}
use Rattle.ceal_session.specs.Replies.{Answers}
use Rattle.ceal_session.specs.SessionState.{Held, situation}
use Rattle.ceal_session.specs.State.{State, numbers_in}
use Rattle.ceal_session.specs.Steps.{refuses, step_of_set}
use Rattle.ceal_session.specs.Values.{handle_of_command, number_of_command, number_of_sense, sense_of_handle}
use Rattle.ceal_session.specs.declared.reply.Reply.TheVariants.{Ok as OkReply}
use Rattle.ceal_session.specs.declared.sense.Sense.TheVariants.{Word as IsWord}
use Rattle.ceal_theory.specs.Pasts.{goes}
use Rattle.ceal_c.specs.Handles.{handle_at}
use Rattle.ceal_c.specs.Statuses.{IsToldOf, status_number}
use Rattle.ceal_c.specs.Texts.{filled}
use Rattle.ceal_c.specs.declared.open.Open.{Open}
use Rattle.ceal_c.specs.declared.status.Status.{Status}
use Rattle.ceal_c.specs.declared.status.Status.TheVariants.{Done, Refused, NoMemory, Fault as IsFault, Closed, IsOpen}
use Rattle.ceal_c.specs.declared.status.Status.TheVariants.{BadFuel, TooLong, NoNumber, NotReady}

-- What a call does to what C keeps: a session that is closed stays so, and that is the status. One that is open stays
-- open, and the status and the session after it are as P says.
abbrev pub OnOpen : Option Open → ℕ → Option Open → (Open → Status → Open → Type 0) → Type 0
OnOpen None number new P = (number ≡ status_number Closed) × (new ≡ None)
OnOpen (Some old) number None P = ⊥
OnOpen (Some old) number (Some new) P = (status : Status) × (number ≡ status_number status) × P old status new

-- The line is answered by this reply, as a session answers it, and the session after it is the other one.
abbrev pub AnswersLine : Held → List ℕ → List ℕ → Held → Type 0
AnswersLine old line text new =
    Answers old.state (numbers_in (situation old)) (goes (situation new).past) line text new.state

-- the session after a call that had no memory for the line
abbrev pub LosesLine : Held → List ℕ → Held → Type 0
LosesLine old line new = IsAfterNoMemory (situation old) line (situation new)

-- the line was carried out, and its reply is kept
abbrev pub LineDone : Open → List ℕ → Status → Open → Type 0
LineDone old line NoMemory new = LosesLine old.session line new.session × (new.reply ≡ old.reply)
LineDone old line status new = AnswersLine old.session line new.reply new.session × IsToldOf new.reply status

-- the line was carried out, and the reply before it is kept
abbrev pub LineTold : Open → List ℕ → Status → Open → Type 0
LineTold old line NoMemory new = LosesLine old.session line new.session × (new.reply ≡ old.reply)
LineTold old line status new =
    (text : List ℕ) × AnswersLine old.session line text new.session × IsToldOf text status × (new.reply ≡ old.reply)

-- the line of a part of a propagate
abbrev pub part_text : ℕ → List ℕ
part_text reads = codes "propagate " ++ decimal reads

-- the line was carried out: what number its reply is, where it is one. `before` is what the number was.
abbrev pub LineAsked : Open → List ℕ → ℤ → Status → ℤ → Open → Type 0
LineAsked old line before Done number new =
    AnswersLine old.session line (signed_decimal number ++ codes "\n") new.session × (new.reply ≡ old.reply)
LineAsked old line before NoNumber number new = LineTold old line Done new × (number ≡ before)
LineAsked old line before status number new = LineTold old line status new × (number ≡ before)

-- the handle of a modifiable was found, or there is none
abbrev pub Found : State → Option Command → ℕ → Status → ℕ → Type 0
Found s command before Done handle = handle_of_command s command ≡ Ok (handle_at handle)
Found s command before (Refused r) handle = (handle_of_command s command ≡ Err r) × (handle ≡ before)
Found s command before NoMemory handle = handle ≡ before
Found s command before status handle = ⊥

-- the number that a modifiable holds was told, by its handle
abbrev pub Told : State → ℕ → ℤ → Status → ℤ → Type 0
Told s handle before Done number = number_of_sense s (sense_of_handle s (handle_at handle)) ≡ Ok number
Told s handle before (Refused r) number =
    (number_of_sense s (sense_of_handle s (handle_at handle)) ≡ Err r) × (number ≡ before)
Told s handle before status number = ⊥

-- and by its name
abbrev pub ToldOf : State → Option Command → ℤ → Status → ℤ → Type 0
ToldOf s command before Done number = number_of_command s command ≡ Ok number
ToldOf s command before (Refused r) number = (number_of_command s command ≡ Err r) × (number ≡ before)
ToldOf s command before NoMemory number = number ≡ before
ToldOf s command before status number = ⊥

-- a modifiable was given another base, or not
abbrev pub HasSet : Open → ℕ → ℤ → Status → Open → Type 0
HasSet old handle number Done new =
    (record { reply = OkReply; state = new.session.state }
    ≡ step_of_set old.session.state (sense_of_handle old.session.state (handle_at handle)) (IsWord (Num number)))
    × (new.reply ≡ old.reply)
HasSet old handle number (Refused r) new =
    (refuses old.session.state r
    ≡ step_of_set old.session.state (sense_of_handle old.session.state (handle_at handle)) (IsWord (Num number)))
    × (new ≡ old)
HasSet old handle number NoMemory new = new ≡ old
HasSet old handle number status new = ⊥

-- whether questions are answered
abbrev pub HasReady : State → Status → Type 0
HasReady s Done = IsReady s
HasReady s NotReady = IsReady s → ⊥
HasReady s status = ⊥

-- a session without a run over the program of the source, and no reply
pub record Opens (source : List ℕ) (fuel : ℕ) (new : Open) : Type 0 where
  pub program : Program
  pub found : IsProgram source program.typed
  pub compiled : IsCompiled program
  pub begins : situation new.session ≡ situation_at_start program fuel
  pub reply : new.reply ≡ []

-- the line of the first fault of the source is in the room, as far as it fits
pub record Faults (source : List ℕ) (room : ℕ) (text : List ℕ) : Type 0 where
  pub fault : Fault
  pub first : IsFirstFault source fault
  pub line : text ≡ filled room (line_of source fault)

-- why a source was not opened
abbrev pub OpensNot : List ℕ → ℕ → List ℕ → Status → List ℕ → Type 0
OpensNot source fuel before IsFault text = Faults source (length before) text
OpensNot source fuel before BadFuel text = ((fuel < 1) ⊎ (4194304 < fuel)) × (text ≡ before)
OpensNot source fuel before TooLong text = (4194304 < length source) × (text ≡ before)
OpensNot source fuel before NoMemory text = text ≡ before
OpensNot source fuel before status text = ⊥

-- What opening does where no session is open: there is one afterwards, as P says, and the room is as before; or there
-- is none, and the status and the room are as Q says.
abbrev pub Begun : (Open → Type 0) → (Status → List ℕ → Type 0) → List ℕ → Status → List ℕ → Option Open → Type 0
Begun P Q before Done text (Some new) = P new × (text ≡ before)
Begun P Q before Done text None = ⊥
Begun P Q before status text (Some new) = ⊥
Begun P Q before status text None = Q status text

-- what opening does: a session that is open stays so
abbrev pub BeginsFrom
    : (Open → Type 0) → (Status → List ℕ → Type 0) → Option Open → List ℕ → ℕ → List ℕ → Option Open → Type 0
BeginsFrom P Q (Some old) before number text new =
    (number ≡ status_number IsOpen) × (text ≡ before) × (new ≡ Some old)
BeginsFrom P Q None before number text new =
    (status : Status) × (number ≡ status_number status) × Begun P Q before status text new

-- opening a source, with a fuel
abbrev pub OpensFrom : Option Open → List ℕ → ℕ → List ℕ → ℕ → List ℕ → Option Open → Type 0
OpensFrom old source fuel before number text new =
    BeginsFrom (Opens source fuel) (OpensNot source fuel before) old before number text new

-- the status of a line whose reply is no number
abbrev pub status_without_number : Status → Status
status_without_number Done = NoNumber
status_without_number status = status

-- the status of closing
abbrev pub closing : Option Open → Status
closing None = Closed
closing (Some session) = Done
