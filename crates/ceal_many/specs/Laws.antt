-- Laws of the replies of many sessions.
use Rattle.std.specs.Prelude.{◌≡◌, ℕ, true, false, List, [], map, bytes_eq}
use Rattle.std.specs.List.{list_any, AllByRecursion}
use Rattle.ceal_many.specs.Alone.{own_lines, own_texts, AnswersAlone, names_after}
use Rattle.ceal_many.specs.Kept.{AllMeet}
use Rattle.ceal_many.specs.Prefixes.{full_text}
use Rattle.ceal_many.specs.Replies.{AreReplies, Answers}
use Rattle.ceal_many.specs.Sessions.{Named, state_for}
use Rattle.ceal_many.specs.Standing.{Answering}

-- the names of the sessions
abbrev pub names_of : {S : Type 0} → List (Named S) → List (List ℕ)
names_of ss = map (λ s. s.name) ss

-- the name is that of one of the first sessions
abbrev pub HasSession : List ℕ → List (List ℕ) → Type 0
HasSession name names = list_any (bytes_eq name) names ≡ true

-- no session has the name
abbrev pub HasNoSession : List ℕ → List (List ℕ) → Type 0
HasNoSession name names = list_any (bytes_eq name) names ≡ false

-- The replies to the lines for one of the first names are those that its session by itself gives to these lines.
abbrev pub OwnRepliesLaw : {S : Type 0} → Answering S → Type 0
OwnRepliesLaw {S} answers = (opening : S) (ss next : List (Named S)) (lines texts : List (List ℕ)) (name : List ℕ)
    → AreReplies answers opening ss lines texts next → HasSession name (names_after (names_of ss) lines)
    → AnswersAlone answers name (state_for opening name ss) (own_lines name lines) (own_texts name lines texts)

-- The lines for any other name are refused.
abbrev pub RefusedLaw : {S : Type 0} → Answering S → Type 0
RefusedLaw {S} answers = (opening : S) (ss next : List (Named S)) (lines texts : List (List ℕ)) (name : List ℕ)
    → AreReplies answers opening ss lines texts next → HasNoSession name (names_after (names_of ss) lines)
    → AllByRecursion (λ text. text ≡ full_text) (own_texts name lines texts)

-- The sessions after the lines are those of the first names.
abbrev pub NamesLaw : {S : Type 0} → Answering S → Type 0
NamesLaw {S} answers = (opening : S) (ss next : List (Named S)) (lines texts : List (List ℕ))
    → AreReplies answers opening ss lines texts next → names_of next ≡ names_after (names_of ss) lines

-- A state and a line have one reply and one next state at most.
pub record IsDetermined {S : Type 0} (answers : Answering S) : Type 0 where
  pub reply : (s : S) (line a b : List ℕ) (m n : S) → answers s line a m → answers s line b n → a ≡ b
  pub state : (s : S) (line a b : List ℕ) (m n : S) → answers s line a m → answers s line b n → m ≡ n

-- Where a session answers in one way at most, so do many.
abbrev pub OneReplyLaw : {S : Type 0} → Answering S → Type 0
OneReplyLaw {S} answers = (opening : S) → IsDetermined answers → IsDetermined (Answers answers opening)

-- In two scripts with the same lines for a name, which is among the first names of both, the replies to them
-- are the same.
abbrev pub AloneLaw : {S : Type 0} → Answering S → Type 0
AloneLaw {S} answers =
    (opening : S) (next after : List (Named S)) (lines others texts told : List (List ℕ)) (name : List ℕ)
    → IsDetermined answers
    → AreReplies answers opening [] lines texts next → AreReplies answers opening [] others told after
    → HasSession name (names_after [] lines) → HasSession name (names_after [] others)
    → own_lines name lines ≡ own_lines name others
    → own_texts name lines texts ≡ own_texts name others told

-- A condition on states is kept by each reply.
abbrev pub Keeps : {S : Type 0} → (S → Type 0) → Answering S → Type 0
Keeps {S} needs answers = (s : S) (line text : List ℕ) (n : S) → needs s → answers s line text n → needs n

-- What the answers of one session keep is kept of all sessions.
abbrev pub KeptLaw : {S : Type 0} → (S → Type 0) → Answering S → Type 0
KeptLaw {S} needs answers =
    (opening : S) (ss next : List (Named S)) (line text : List ℕ) → Keeps needs answers → needs opening
    → AllMeet needs ss → Answers answers opening ss line text next → AllMeet needs next

-- Each state that meets the condition has a reply to each line, and the next state meets it too.
abbrev pub GoesOn : {S : Type 0} → (S → Type 0) → Answering S → Type 0
GoesOn {S} needs answers =
    (s : S) (line : List ℕ) → needs s → (text : List ℕ) × (n : S) × answers s line text n × needs n

-- Where one session answers each line, many answer all lines.
abbrev pub SomeReplyLaw : {S : Type 0} → (S → Type 0) → Answering S → Type 0
SomeReplyLaw {S} needs answers =
    (opening : S) (ss : List (Named S)) (lines : List (List ℕ)) → GoesOn needs answers → needs opening
    → AllMeet needs ss
    → (texts : List (List ℕ)) × (next : List (Named S)) × AreReplies answers opening ss lines texts next
