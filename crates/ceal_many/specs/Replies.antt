-- The replies to lines of many sessions. `answers` says of one session's state which text answers a line and
-- what the next state is, and `leaves` what is left of it after running out of memory.
use Rattle.std.specs.Prelude.{◌≡◌, ◌⊎◌, ℕ, Bool, true, false, Option, Some, None, List, [], ◌∷◌}
use Rattle.ceal_many.specs.Lines.{Said, Blank, For, Unreadable, said}
use Rattle.ceal_many.specs.Prefixes.{prefixed, unreadable_text, full_text}
use Rattle.ceal_many.specs.Sessions.{Named, state_of, with_state, state_for, is_refused}
use Rattle.ceal_many.specs.Standing.{Answering, Leaving}

-- The session of a name answers, and its reply is written with the prefix.
pub record Writes
    {S : Type 0} (answers : Answering S) (name : List ℕ) (s : S) (line text : List ℕ) (n : S) : Type 0 where
  pub reply : List ℕ
  pub answer : answers s line reply n
  pub written : text ≡ prefixed name reply

-- The session of the name answers and gets its next state; the others stay.
pub record AnswersAs
    {S : Type 0} (answers : Answering S) (opening : S) (name : List ℕ) (ss : List (Named S))
    (line text : List ℕ) (next : List (Named S)) : Type 0 where
  pub state : S
  pub writes : Writes answers name (state_for opening name ss) line text state
  pub others : next ≡ with_state name state ss

-- the text, and the sessions as they are
pub record Stays {S : Type 0} (ss : List (Named S)) (told text : List ℕ) (next : List (Named S)) : Type 0 where
  pub written : text ≡ told
  pub same : next ≡ ss

-- a new session is begun for the name, unless there are too many
abbrev pub AnswersUnless : {S : Type 0} → Bool → Answering S → S → List ℕ → List (Named S) → List ℕ → List ℕ
    → List (Named S) → Type 0
AnswersUnless true answers opening name ss line text next = Stays ss full_text text next
AnswersUnless false answers opening name ss line text next = AnswersAs answers opening name ss line text next

-- The line for the session of a name is answered by the text.
abbrev pub AnswersFor : {S : Type 0} → Answering S → S → List ℕ → List (Named S) → List ℕ → List ℕ
    → List (Named S) → Type 0
AnswersFor answers opening name ss line text next =
    AnswersUnless (is_refused name ss) answers opening name ss line text next

-- how a line is answered, by what it says
abbrev pub AnswersSaid : {S : Type 0} → Answering S → S → List (Named S) → Said → List ℕ → List (Named S) → Type 0
AnswersSaid answers opening ss Blank text next = Stays ss [] text next
AnswersSaid answers opening ss Unreadable text next = Stays ss unreadable_text text next
AnswersSaid answers opening ss (For name line) text next = AnswersFor answers opening name ss line text next

-- The line is answered by the text, and the sessions after it are `next`.
abbrev pub Answers : {S : Type 0} → Answering S → S → List (Named S) → List ℕ → List ℕ → List (Named S) → Type 0
Answers answers opening ss line text next = AnswersSaid answers opening ss (said line) text next

-- A session after running out of memory: it has given its answer, which was not written, or it is left without one.
abbrev pub LeavesOne : {S : Type 0} → Answering S → Leaving S → S → List ℕ → S → Type 0
LeavesOne answers leaves s line n = ((reply : List ℕ) × answers s line reply n) ⊎ leaves s line n

-- A session that was not there is not there; one that was there is left by itself, and all others are as they were.
abbrev pub LeavesAs : {S : Type 0} → Option S → Answering S → Leaving S → List ℕ → List (Named S) → List ℕ
    → List (Named S) → Type 0
LeavesAs None answers leaves name ss line next = next ≡ ss
LeavesAs {S} (Some s) answers leaves name ss line next =
    (n : S) × LeavesOne answers leaves s line n × (next ≡ with_state name n ss)

-- which sessions a line for a name leaves
abbrev pub LeavesFor : {S : Type 0} → Answering S → Leaving S → List ℕ → List (Named S) → List ℕ
    → List (Named S) → Type 0
LeavesFor answers leaves name ss line next = LeavesAs (state_of name ss) answers leaves name ss line next

-- which sessions a line leaves, by what it says
abbrev pub LeavesSaid : {S : Type 0} → Answering S → Leaving S → List (Named S) → Said → List (Named S) → Type 0
LeavesSaid answers leaves ss Blank next = next ≡ ss
LeavesSaid answers leaves ss Unreadable next = next ≡ ss
LeavesSaid answers leaves ss (For name line) next = LeavesFor answers leaves name ss line next

-- There was no memory for the answer to the line, and the sessions after it are `next`.
abbrev pub Leaves : {S : Type 0} → Answering S → Leaving S → List (Named S) → List ℕ → List (Named S) → Type 0
Leaves answers leaves ss line next = LeavesSaid answers leaves ss (said line) next

-- The lines are answered by these texts, one after another.
unfoldable pub AreReplies : {S : Type 0} → Answering S → S → List (Named S) → List (List ℕ) → List (List ℕ)
    → List (Named S) → Type 0
AreReplies answers opening ss [] texts next = (texts ≡ []) × (next ≡ ss)
AreReplies {S} answers opening ss (line ∷ lines) texts next =
    (text : List ℕ) × (mid : List (Named S)) × (rest : List (List ℕ)) × Answers answers opening ss line text mid
    × AreReplies answers opening mid lines rest next × (texts ≡ text ∷ rest)
