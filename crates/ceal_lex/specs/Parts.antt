-- The parts of an input.
use Rattle.std.specs.Prelude.{ℕ, ◌+◌, ◌<◌, ◌≤◌, ◌^◌, ◌≡◌, ◌⊎◌, Bool, true, false, List, [], ◌∷◌, ◌++◌, length, take}
use Rattle.ceal_lex.specs.declared.parts.Split.{Split}
use Rattle.ceal_lex.specs.Characters.{LINE_FEED, CARRIAGE_RETURN, PERCENT}
use Rattle.ceal_lex.specs.Tokens.{span}

-- `%%`, and at most one CR after it
abbrev pub IsMark : List ℕ → Type 0
IsMark text = (text ≡ PERCENT ∷ PERCENT ∷ []) ⊎ (text ≡ PERCENT ∷ PERCENT ∷ CARRIAGE_RETURN ∷ [])

-- A line may begin after these bytes.
abbrev pub IsBeforeLine : List ℕ → Type 0
IsBeforeLine bytes = (bytes ≡ []) ⊎ (earlier : List ℕ) × (bytes ≡ earlier ++ LINE_FEED ∷ [])

-- The line that has this text, with its LF where it has one, before the bytes `after`.
abbrev pub IsLine : List ℕ → List ℕ → List ℕ → Type 0
IsLine text line after = (line ≡ text ++ LINE_FEED ∷ []) ⊎ (line ≡ text) × (after ≡ [])

-- The input has the line `%%` between `before` and `after`.
pub record HasMark (input before after : List ℕ) : Type 0 where
  pub text : List ℕ
  pub line : List ℕ
  pub mark : IsMark text
  pub is_line : IsLine text line after
  pub starts : IsBeforeLine before
  pub whole : input ≡ before ++ (line ++ after)

-- It has none earlier.
pub record HasFirstMark (input before after : List ℕ) : Type 0 where
  pub mark : HasMark input before after
  pub first : (b a : List ℕ) → HasMark input b a → length before ≤ length b

-- The source part is what is before the first line `%%`, and the script is what is after it.
pub record IsMarked (input : List ℕ) (part : Split) : Type 0 where
  pub before : List ℕ
  pub after : List ℕ
  pub first : HasFirstMark input before after
  pub source : part.source ≡ span 0 (length before)
  pub from : part.script.from + length after ≡ length input
  pub to : part.script.to ≡ length input

-- No line is `%%`: the source part is the whole input, and the script is empty.
pub record IsUnmarked (input : List ℕ) (part : Split) : Type 0 where
  pub none : (b a : List ℕ) → HasMark input b a → ⊥
  pub source : part.source ≡ span 0 (length input)
  pub script : part.script ≡ span (length input) (length input)

-- the parts of an input, with the mark or without it
abbrev pub PartsAre : Bool → List ℕ → Split → Type 0
PartsAre true input part = IsMarked input part
PartsAre false input part = IsUnmarked input part

-- These are the parts of the input.
pub record IsSplit (input : List ℕ) (part : Split) : Type 0 where
  pub small : length input < 2 ^ 32
  pub parts : PartsAre part.marked input part

-- the bytes of the source part
abbrev pub source_of : List ℕ → Split → List ℕ
source_of input part = take part.source.to input
