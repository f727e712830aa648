-- A session among others, as the code keeps it.
use Rattle.std.specs.Prelude.{◌≡◌, ℕ, ◌<◌, ◌^◌, List, length}
use Rattle.ceal_compile.specs.Compiled.{IsCompiled}
use Rattle.ceal_compile.specs.Source.{IsProgram}
use Rattle.ceal_compile.specs.declared.program.Program.{Program}
use Rattle.ceal_many.specs.Kept.{StandFor, AllMeet}
use Rattle.ceal_many.specs.Replies.{Answers}
use Rattle.ceal_many.specs.Sessions.{Named}
use Rattle.ceal_many.specs.Standing.{IsReady, IsAnswered}
use Rattle.ceal_many.specs.declared.entry.Entry.{Entry}
use Rattle.ceal_session.specs.AfterLine.{IsAllowed, situation_at_start}
use Rattle.ceal_session.specs.SessionState.{situation}
use Rattle.ceal_session.specs.Replies.{Replies}
use Rattle.ceal_session.specs.Consistency.{IsIn, IsConsistent}
use Rattle.ceal_session.specs.State.{Situation}
use Rattle.ceal_cli.specs.declared.members.Member.{Member}
use Rattle.ceal_cli.specs.declared.members.Start.{Start}

-- The input is accepted, this is its program, and `fuel` is the largest number of steps of a run.
pub record Opens (input : List ℕ) (program : Program) (fuel : ℕ) : Type 0 where
  pub small : length input < 2 ^ 32
  pub reads : IsProgram input program.typed
  pub compiled : IsCompiled program
  pub allowed : IsAllowed fuel

-- the situation in which a session begins
abbrev pub first_situation : Start → Situation
first_situation start = situation_at_start start.program start.fuel

-- Each session is in the situation of its name.
abbrev pub AreIn : List (Entry Member) → List (Named Situation) → Type 0
AreIn sessions situations = StandFor (λ member m. IsIn (situation member.session) m) sessions situations

-- the sessions are in situations that they may come to
abbrev pub AreReady : List (Entry Member) → Type 0
AreReady sessions = IsReady AreIn (AllMeet IsConsistent) sessions

-- The line is answered by the text, and the sessions continue.
abbrev pub Answered
    : Situation → List (Entry Member) → List ℕ → List (Entry Member) → List ℕ → Type 0
Answered first old line new text = IsAnswered AreIn (Answers Replies first) old line text new
