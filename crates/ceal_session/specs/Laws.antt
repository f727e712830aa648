-- Laws of replies.
use Rattle.std.specs.Prelude.{◌≡◌, ℕ, ℤ, Bool, Option, Ok, List, ◌++◌}
use Rattle.ceal_base.specs.declared.call.Call.{Call}
use Rattle.ceal_base.specs.declared.word.Place.{Place}
use Rattle.ceal_base.specs.declared.word.Word.TheVariants.{Num}
use Rattle.ceal_compile.specs.Compiled.{IsCompiled}
use Rattle.ceal_compile.specs.declared.program.Program.{Program}
use Rattle.ceal_script.specs.declared.command.Command.{Command}
use Rattle.ceal_theory.specs.Pasts.{goes}
use Rattle.ceal_session.specs.Questions.{IsCellOf}
use Rattle.ceal_session.specs.AfterLine.{situation_at_start, IsAfterLine, KeepsRuns, situation_out_of_fuel}
use Rattle.ceal_session.specs.Replies.{Reads, Answers, Replies, Leads}
use Rattle.ceal_session.specs.Consistency.{IsConsistent, IsIn}
use Rattle.ceal_session.specs.State.{State, Situation, Numbers, numbers_in}
use Rattle.ceal_session.specs.Steps.{call_of, step_of_set}
use Rattle.ceal_session.specs.Values.{sense_of_handle}
use Rattle.ceal_session.specs.declared.handle.Handle.{Handle}
use Rattle.ceal_session.specs.declared.reply.Reply.TheVariants as reply
use Rattle.ceal_session.specs.declared.sense.Sense.TheVariants.{Word as IsWord}

-- A line is one command's at most.
abbrev pub OneCommandLaw : Type 0
OneCommandLaw = (line : List ℕ) (c d : Option Command) → Reads line c → Reads line d → c ≡ d

-- A line has one reply, by the state, the numbers and whether a repair is in progress after it.
abbrev pub OneAnswerLaw : Type 0
OneAnswerLaw =
    (s : State) (numbers : Numbers) (more : Bool) (line a b : List ℕ) (m n : State)
    → Answers s numbers more line a m → Answers s numbers more line b n → a ≡ b

-- The state after it says nothing of the numbers.
abbrev pub OneStateLaw : Type 0
OneStateLaw =
    (s : State) (v w : Numbers) (more : Bool) (line a b : List ℕ) (m n : State) → Answers s v more line a m
    → Answers s w more line b n → m ≡ n

-- So a line has one reply in a situation, and one situation after it, and so have lines one after another.
abbrev pub OneReplyLaw : Type 0
OneReplyLaw =
    (m : Situation) (line a b : List ℕ) (n o : Situation) → Replies m line a n → Replies m line b o → (a ≡ b) × (n ≡ o)

abbrev pub OneScriptLaw : Type 0
OneScriptLaw =
    (m : Situation) (lines : List (List ℕ)) (a b : List ℕ) (n o : Situation) → Leads m lines a n
    → Leads m lines b o → (a ≡ b) × (n ≡ o)

-- Lines after others continue from the situation after those.
abbrev pub JoinedLaw : Type 0
JoinedLaw =
    (m n o : Situation) (front back : List (List ℕ)) (a b : List ℕ) → Leads m front a n → Leads n back b o
    → Leads m (front ++ back) (a ++ b) o

-- The first situation of a session is sound: it is the one in which nothing was run.
abbrev pub BegunLaw : Type 0
BegunLaw = (p : Program) (fuel : ℕ) → IsCompiled p → IsIn (situation_at_start p fuel) (situation_at_start p fuel)

-- In a situation that a session reaches each line has a reply, and the one after it is such a one.
pub record Replied (m : Situation) (line : List ℕ) : Type 0 where
  pub text : List ℕ
  pub next : Situation
  pub replies : Replies m line text next
  pub stands : IsConsistent next

abbrev pub SomeReplyLaw : Type 0
SomeReplyLaw = (m : Situation) (line : List ℕ) → IsConsistent m → Replied m line

-- And so have lines one after another.
pub record Led (m : Situation) (lines : List (List ℕ)) : Type 0 where
  pub out : List ℕ
  pub end : Situation
  pub leads : Leads m lines out end
  pub stands : IsConsistent end

abbrev pub SomeScriptLaw : Type 0
SomeScriptLaw = (m : Situation) (lines : List (List ℕ)) → IsConsistent m → Led m lines

-- The line is answered in the situation as the session answered it, and the session is in the situation after it.
pub record AnswersIn (m : Situation) (line text : List ℕ) (session : Situation) : Type 0 where
  pub next : Situation
  pub replies : Replies m line text next
  pub is_in : IsIn session next

-- So it is with each line of a session that is in a situation.
abbrev pub KeptLaw : Type 0
KeptLaw = (old new m : Situation) (line text : List ℕ) → IsIn old m
    → Answers old.state (numbers_in old) (goes new.past) line text new.state → IsAfterLine old line new
    → AnswersIn m line text new

-- Where there was no memory for an accepted `run` or `propagate`, what is left of it is in what is left of
-- the situation.
abbrev pub DroppedLaw : Type 0
DroppedLaw =
    (session m : Situation) (command : Command) (call : Call) → IsIn session m → call_of m.state command ≡ Ok call
    → IsIn (situation_out_of_fuel session call) (situation_out_of_fuel m call)

-- A modifiable stays one after each line, so a handle stands for the same as long as its session.
abbrev pub KeptHandleLaw : Type 0
KeptHandleLaw =
    (m n : Situation) (line text : List ℕ) (p : Place) → IsConsistent m → Replies m line text n → IsCellOf m.state p
    → IsCellOf n.state p

-- Another base for the modifiable of a handle leads from one situation to the next. It is that of a line `set`, which
-- runs nothing.
pub record Edits (m : Situation) (h : Handle) (number : ℤ) (n : Situation) : Type 0 where
  pub set : record { reply = reply.Ok; state = n.state }
      ≡ step_of_set m.state (sense_of_handle m.state h) (IsWord (Num number))
  pub keeps : KeepsRuns m n

-- The edit leads from the situation to one that the session is in.
pub record EditsIn (m : Situation) (h : Handle) (number : ℤ) (session : Situation) : Type 0 where
  pub next : Situation
  pub edits : Edits m h number next
  pub is_in : IsIn session next

-- So it is with each edit of a session that is in a situation.
abbrev pub KeptEditLaw : Type 0
KeptEditLaw =
    (old new m : Situation) (h : Handle) (number : ℤ) → IsIn old m → Edits old h number new → EditsIn m h number new

-- A modifiable stays one after such an edit, too.
abbrev pub KeptByEditLaw : Type 0
KeptByEditLaw =
    (m n : Situation) (h : Handle) (number : ℤ) (p : Place) → IsConsistent m → Edits m h number n → IsCellOf m.state p
    → IsCellOf n.state p
