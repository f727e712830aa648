-- What is said for what was heard.
use Rattle.std.specs.Prelude.{◌≡◌, ◌≢◌, ◌⊎◌, ◌<◌, ◌-◌, ℕ, Bool, true, false, List, [], ◌∷◌, ◌++◌, length, take}
use Rattle.ceal_base.specs.declared.fault.Fault.{Fault}
use Rattle.ceal_compile.specs.FaultLine.{fault_line}
use Rattle.ceal_compile.specs.Source.{IsFirstFault}
use Rattle.ceal_lex.specs.Characters.{LINE_FEED}
use Rattle.ceal_lex.specs.Parts.{IsBeforeLine, IsSplit, HasMark}
use Rattle.ceal_lex.specs.declared.parts.Split.{Split}
use Rattle.ceal_session.specs.Replies.{IsReplied}
use Rattle.ceal_cli.specs.Lines.{script_of, script_lines}
use Rattle.ceal_cli.specs.Output.{Begins, IsPrefix, Programmed, first_state}
use Rattle.ceal_serve.specs.Exchange.{Exchange}

-- The head of a text is its source part with the line `%%`. Where the text has ended, it may have no such line, or one
-- without a line feed, and is then all head.
pub record IsHead (ended : Bool) (head script : List ℕ) : Type 0 where
  pub part : Split
  pub split : IsSplit head part
  pub bare : script_of head part ≡ []
  pub complete : ((part.marked ≡ true) × IsBeforeLine head) ⊎ ((ended ≡ true) × (script ≡ []))

-- The text is a head, and then a script.
pub record Headed (ended : Bool) (text : List ℕ) : Type 0 where
  pub head : List ℕ
  pub script : List ℕ
  pub is_head : IsHead ended head script
  pub whole : text ≡ head ++ script

-- The source part is an accepted program, and these are the replies to the lines of the script, as those of `ceal run`.
pub record IsServed (fuel : ℕ) (ended : Bool) (text said : List ℕ) : Type 0 where
  pub parts : Headed ended text
  pub program : Programmed parts.head
  pub replies : IsReplied program.code (first_state program fuel) (script_lines parts.script) said

-- The source part is not accepted, and this is the line of its first fault.
pub record IsTurnedAway (ended : Bool) (text said : List ℕ) : Type 0 where
  pub parts : Headed ended text
  pub fault : Fault
  pub first : IsFirstFault parts.head fault
  pub line : said ≡ fault_line parts.head fault

-- No line of the text is the mark.
abbrev pub HasNoMark : List ℕ → Type 0
HasNoMark text = (before after : List ℕ) → ¬ HasMark text before after

-- To complete lines this is all that there is to say: nothing before the mark, and after it the replies.
abbrev pub IsAnswered : ℕ → List ℕ → List ℕ → Type 0
IsAnswered fuel lines said = (HasNoMark lines × (said ≡ [])) ⊎ IsServed fuel false lines said

-- no byte is a line feed
abbrev pub IsOneLine : List ℕ → Type 0
IsOneLine [] = Unit {0}
IsOneLine (b ∷ bs) = (b ≢ LINE_FEED) × IsOneLine bs

-- More may be asked for: the end was not heard yet, and what was heard is complete lines, to which all was said,
-- and the beginning of one more line.
pub record IsTurn (e : Exchange) : Type 0 where
  pub going : e.ended ≡ false
  pub lines : List ℕ
  pub part : List ℕ
  pub heard : e.heard ≡ lines ++ part
  pub complete : IsBeforeLine lines
  pub one : IsOneLine part
  pub answered : IsAnswered e.fuel lines e.said

-- The conversation is over, and all was said for what was heard.
abbrev pub IsDone : Exchange → Type 0
IsDone e = (e.ended ≡ true) × IsServed e.fuel true e.heard e.said

-- The source part was refused.
abbrev pub IsRefused : Exchange → Type 0
IsRefused e = IsTurnedAway e.ended e.heard e.said

-- whether it was accepted or refused
abbrev pub IsOver : Bool → Exchange → Type 0
IsOver true e = IsDone e
IsOver false e = IsRefused e

-- all that is said for a text, which has ended or will continue with the script
abbrev pub IsAllSaid : Bool → ℕ → List ℕ → List ℕ → Type 0
IsAllSaid ended fuel text said = IsServed fuel ended text said ⊎ IsTurnedAway ended text said

-- of one that has ended
abbrev pub IsSaidFor : ℕ → List ℕ → List ℕ → Type 0
IsSaidFor fuel text said = IsAllSaid true fuel text said

-- This is one line with its line feed; or it is the last one, and nothing is after it.
abbrev pub IsNextLine : Bool → List ℕ → List ℕ → Type 0
IsNextLine false next after = (line : List ℕ) × IsOneLine line × (next ≡ line ++ LINE_FEED ∷ [])
IsNextLine true next after = IsOneLine next × (after ≡ [])

-- To complete lines this is all that there is to say, and this is the reply to the next one: to a line that was heard
-- with its line feed, or to the last one, if the end was heard. Of a source part that is not accepted the reply is the
-- line of its fault.
pub record IsNextReply (fuel : ℕ) (heard : List ℕ) (ended : Bool) (before reply : List ℕ) : Type 0 where
  pub lines : List ℕ
  pub next : List ℕ
  pub after : List ℕ
  pub heard_is : heard ≡ lines ++ (next ++ after)
  pub complete : IsBeforeLine lines
  pub last : Bool
  pub is_line : IsNextLine last next after
  pub over : last ≡ true → ended ≡ true
  pub answered : IsAnswered fuel lines before
  pub replied : IsAllSaid last fuel (lines ++ next) (before ++ reply)

-- What was said is all that there was to say before the next reply, and a part of that; the bytes continue that part,
-- and end within it.
pub record IsWithinReply (bytes : List ℕ) (e : Exchange) : Type 0 where
  pub before : List ℕ
  pub reply : List ℕ
  pub is_next : IsNextReply e.fuel e.heard e.ended before reply
  pub part : List ℕ
  pub said_is : e.said ≡ before ++ part
  pub within : IsPrefix (part ++ bytes) reply

-- However what was heard continues, what was said begins all that is said for the whole; once the end was heard, it
-- continues with nothing.
unfoldable pub IsBeginning : Exchange → Type 0
IsBeginning e =
    (more : List ℕ) → (e.ended ≡ true → more ≡ []) → Begins (IsSaidFor e.fuel (e.heard ++ more)) e.said

-- the most bytes that a source part has with its mark, and a line with its line feed
abbrev pub LIMIT : ℕ
LIMIT = 4194304

-- Among the first bytes, at most as many as this, is no line feed, and there are more.
pub record IsLong (limit : ℕ) (text : List ℕ) : Type 0 where
  pub one : IsOneLine (take limit text)
  pub long : limit < length text

-- What was heard has complete lines, and after them too much: of a source part without its mark, or of one line.
pub record IsTooLong (e : Exchange) : Type 0 where
  pub lines : List ℕ
  pub part : List ℕ
  pub heard : e.heard ≡ lines ++ part
  pub complete : IsBeforeLine lines
  pub long : IsLong LIMIT part ⊎ (HasNoMark lines × IsLong (LIMIT - length lines) part)
