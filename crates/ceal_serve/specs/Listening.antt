-- Hearing lines, and the source part.
use Rattle.std.specs.Prelude.{◌≡◌, ◌⊎◌, ◌<◌, ◌≤◌, ℕ, Bool, true, false, IsTrue, ◌↔◌, List, [], ◌∷◌, ◌++◌, length}
use Rattle.std.specs.Prelude.{Option, Some, None, option_map}
use Rattle.ceal_base.specs.declared.fault.Fault.{Fault}
use Rattle.ceal_compile.specs.FaultLine.{fault_line}
use Rattle.ceal_compile.specs.Source.{IsFirstFault}
use Rattle.ceal_lex.specs.Characters.{LINE_FEED}
use Rattle.ceal_lex.specs.Parts.{IsBeforeLine, IsMark}
use Rattle.ceal_serve.specs.Exchange.{Exchange}
use Rattle.ceal_serve.specs.Turns.{HasNoMark, IsAnswered, IsOneLine, IsWithinReply}

-- To the lines that were taken all was said, and the rest was heard after them, and not yet the end.
pub record IsCaughtUp (rest : List ℕ) (e : Exchange) : Type 0 where
  pub going : e.ended ≡ false
  pub lines : List ℕ
  pub heard : e.heard ≡ lines ++ rest
  pub complete : IsBeforeLine lines
  pub answered : IsAnswered e.fuel lines e.said

-- more was heard
abbrev pub heard_more : List ℕ → Exchange → Exchange
heard_more more e = record e { heard = e.heard ++ more }

-- the end was heard
abbrev pub heard_end : Exchange → Exchange
heard_end e = record e { ended = true }

-- More was heard, and is there after what was there before.
pub record Hears (old new : Option Exchange) (before after : List ℕ) : Type 0 where
  pub more : List ℕ
  pub exchange : new ≡ option_map (heard_more more) old
  pub there : after ≡ before ++ more

-- At least one byte more was.
pub record HearsMore (old new : Option Exchange) (before after : List ℕ) : Type 0 where
  pub more : List ℕ
  pub some : 0 < length more
  pub exchange : new ≡ option_map (heard_more more) old
  pub there : after ≡ before ++ more

-- More was heard, and then the end.
pub record HearsEnd (old new : Option Exchange) (before after : List ℕ) : Type 0 where
  pub more : List ℕ
  pub exchange : new ≡ option_map heard_end (option_map (heard_more more) old)
  pub there : after ≡ before ++ more

-- More was heard, which may be lost.
abbrev pub HearsSome : Option Exchange → Option Exchange → Type 0
HearsSome old new = (more : List ℕ) × (new ≡ option_map (heard_more more) old)

-- The first line feed is there.
pub record HasLine (text : List ℕ) (at : ℕ) : Type 0 where
  pub line : List ℕ
  pub rest : List ℕ
  pub whole : text ≡ line ++ LINE_FEED ∷ rest
  pub one : IsOneLine line
  pub ends : length line ≡ at

-- A line within the limit was heard, with its line feed; or the end was, and what is left is the last line.
abbrev pub HearsLine : Option ℕ → ℕ → Option Exchange → Option Exchange → List ℕ → List ℕ → Type 0
HearsLine None limit old new before after = HearsEnd old new before after × IsOneLine after × (length after ≤ limit)
HearsLine (Some at) limit old new before after = Hears old new before after × HasLine after at × (at < limit)

-- The source part so far is complete lines without the mark, and the rest was heard after it.
pub record IsListening (fuel : ℕ) (text rest : List ℕ) (e : Exchange) : Type 0 where
  pub fuel_is : e.fuel ≡ fuel
  pub heard : e.heard ≡ text ++ rest
  pub going : e.ended ≡ false
  pub unsaid : e.said ≡ []

-- A line was taken from the front of the lines to the end of the text.
pub record TakesLine (old new lines rest : List ℕ) (marked : Bool) : Type 0 where
  pub line : List ℕ
  pub lines_are : lines ≡ line ++ LINE_FEED ∷ rest
  pub one : IsOneLine line
  pub text : new ≡ old ++ (line ++ LINE_FEED ∷ [])
  pub is_mark : IsTrue marked ↔ IsMark line

-- The text is complete lines without the mark, and then it.
pub record IsMarkedSource (text : List ℕ) : Type 0 where
  pub front : List ℕ
  pub line : List ℕ
  pub whole : text ≡ front ++ (line ++ LINE_FEED ∷ [])
  pub none : HasNoMark front
  pub complete : IsBeforeLine front
  pub mark : IsMark line

-- The text is complete lines without the mark, and then one line without an end.
pub record IsOpenSource (text : List ℕ) : Type 0 where
  pub front : List ℕ
  pub last : List ℕ
  pub whole : text ≡ front ++ last
  pub none : HasNoMark front
  pub complete : IsBeforeLine front
  pub one : IsOneLine last

abbrev pub SourceIs : Bool → List ℕ → Type 0
SourceIs true text = IsMarkedSource text
SourceIs false text = IsOpenSource text

-- The source part was heard: with its mark, and the rest after it, or to the end of what there is to hear.
pub record IsHeardSource (fuel : ℕ) (marked : Bool) (text rest : List ℕ) (e : Exchange) : Type 0 where
  pub fuel_is : e.fuel ≡ fuel
  pub unsaid : e.said ≡ []
  pub heard : ((marked ≡ true) × (e.ended ≡ false) × (e.heard ≡ text ++ rest))
      ⊎ ((marked ≡ false) × (e.ended ≡ true) × (e.heard ≡ text))

-- the line of the first fault
abbrev pub IsFaultLineOf : List ℕ → List ℕ → Type 0
IsFaultLineOf source line = (fault : Fault) × IsFirstFault source fault × (line ≡ fault_line source fault)

-- Such a line is the next reply, of which nothing was said yet.
unfoldable pub OwesFault : List ℕ → Exchange → Type 0
OwesFault source e = (line : List ℕ) → IsFaultLineOf source line → IsWithinReply line e
