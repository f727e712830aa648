-- What a conversation has come to.
use Rattle.std.specs.Prelude.{◌≡◌, ◌≤◌, ℕ, Bool, true, false, List, [], ◌∷◌, ◌++◌, Option, Some, None, Result}
use Rattle.std.specs.Prelude.{MatchResult, option_map, take, length}

-- How many steps a run may take in it, all that there is to hear, what was heard so far, whether its end was heard, and
-- what was said so far.
pub record Exchange : Type 0 where
  pub fuel : ℕ
  pub input : List ℕ
  pub heard : List ℕ
  pub ended : Bool
  pub said : List ℕ

-- what stays as it was, whatever is heard and said
pub record Given : Type 0 where
  pub fuel : ℕ
  pub input : List ℕ

unfoldable pub given : Option Exchange → Option Given
given None = None
given (Some e) = Some (record { fuel = e.fuel; input = e.input })

-- What was heard begins what there is to hear, and is all of it once the end was heard.
pub record IsWithin (e : Exchange) : Type 0 where
  pub left : List ℕ
  pub whole : e.heard ++ left ≡ e.input
  pub all : e.ended ≡ true → left ≡ []

-- how many reads have failed, and how many writes
pub record FaultCounts : Type 0 where
  pub reads : ℕ
  pub writes : ℕ

-- after more was heard; nothing is the end
abbrev pub hearing : List ℕ → Exchange → Exchange
hearing [] e = record e { ended = true }
hearing (b ∷ bs) e = record e { heard = e.heard ++ b ∷ bs }

-- after more was said
abbrev pub saying : List ℕ → Exchange → Exchange
saying bytes e = record e { said = e.said ++ bytes }

-- `read(into)` heard the n bytes that it gave at `Ok(n)`, and nothing at `Err`.
abbrev pub ReadHears : {E : Type 0} → Option Exchange → Option Exchange → Result ℕ E → List ℕ → Type 0
ReadHears old new r into = MatchResult r (λ n. new ≡ option_map (hearing (take n into)) old) (λ _. new ≡ old)

-- `write(bytes)` said the n bytes that it took at `Ok(n)`, and nothing at `Err`.
abbrev pub WriteSays : {E : Type 0} → Option Exchange → Option Exchange → Result ℕ E → List ℕ → Type 0
WriteSays old new r bytes = MatchResult r (λ n. new ≡ option_map (saying (take n bytes)) old) (λ _. new ≡ old)

-- nothing was heard or said yet
pub record IsBegun (fuel : ℕ) (e : Exchange) : Type 0 where
  pub fuel_is : e.fuel ≡ fuel
  pub unheard : e.heard ≡ []
  pub going : e.ended ≡ false
  pub unsaid : e.said ≡ []

-- a conversation in which nothing was heard or said yet
abbrev pub at_beginning : ℕ → List ℕ → Exchange
at_beginning fuel input = record { fuel = fuel; input = input; heard = []; ended = false; said = [] }

-- a text of this sort was said
abbrev pub Says : Option Exchange → Option Exchange → (List ℕ → Type 0) → Type 0
Says old new P = (text : List ℕ) × P text × (new ≡ option_map (saying text) old)

-- The first bytes of these were said.
abbrev pub SaysPrefix : Option Exchange → Option Exchange → List ℕ → Type 0
SaysPrefix old new bytes = (count : ℕ) × (count ≤ length bytes) × (new ≡ option_map (saying (take count bytes)) old)
