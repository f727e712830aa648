-- What is kept of many sessions, and the states that they stand for.
use Rattle.std.specs.Prelude.{◌≡◌, ℕ, List, [], ◌∷◌, ◌++◌}
use Rattle.std.specs.List.{AllZip, AllByRecursion}
use Rattle.ceal_many.specs.Replies.{Writes}
use Rattle.ceal_many.specs.Sessions.{Named}
use Rattle.ceal_many.specs.declared.entry.Entry.{Entry}
use Rattle.ceal_many.specs.Standing.{Answering}

-- the maker, and the sessions by their names
pub record ManyState (M A : Type 0) : Type 0 where
  pub maker : M
  pub sessions : List (Entry A)

-- The session has the name and stands for the state.
pub record StandsAs {A S : Type 0} (stands : A → S → Type 0) (entry : Entry A) (named : Named S) : Type 0 where
  pub name : entry.name ≡ named.name
  pub state : stands entry.answerer named.state

-- Each session stands for the state of its name.
abbrev pub StandFor : {A S : Type 0} → (A → S → Type 0) → List (Entry A) → List (Named S) → Type 0
StandFor stands sessions states = AllZip (StandsAs stands) sessions states

-- Each state meets the condition.
abbrev pub AllMeet : {S : Type 0} → (S → Type 0) → List (Named S) → Type 0
AllMeet needs states = AllByRecursion (λ s. needs s.state) states

-- A session is made and answers a line, and it is put after the others.
pub record Begins
    {A S : Type 0} (stands : A → S → Type 0) (answers : Answering S) (opening : S)
    (name line : List ℕ) (old : List (Entry A)) (text : List ℕ) (new : List (Entry A)) : Type 0 where
  pub answerer : A
  pub state : S
  pub stand : stands answerer state
  pub writes : Writes answers name opening line text state
  pub sessions : new ≡ old ++ (record { name = name; answerer = answerer }) ∷ []
