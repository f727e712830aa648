-- What an input comes to: the program of its source part, or the first fault. Each phase looks at the source part only
-- where those before it have no fault.
use Rattle.std.specs.Prelude.{ℕ, ◌≡◌, ◌⊎◌, Result, Ok, Err, List}
use Rattle.ceal_base.specs.declared.fault.Fault.{Fault}
use Rattle.ceal_base.specs.declared.typed.Typed.{Typed}
use Rattle.ceal_lex.specs.declared.parts.Split.{Split}
use Rattle.ceal_lex.specs.declared.token.Token.{Token}
use Rattle.ceal_lex.specs.Faults.{IsFirstFault as IsFirstMisspelling}
use Rattle.ceal_lex.specs.Parts.{IsSplit, source_of}
use Rattle.ceal_lex.specs.Tokens.{AreTokens}
use Rattle.ceal_compile.specs.Phases.{TokensCome}

-- The part has this first fault of characters.
pub record IsMisspelled (input : List ℕ) (part : Split) (r : Result Typed Fault) : Type 0 where
  pub fault : Fault
  pub stands : IsFirstMisspelling (source_of input part) fault
  pub same : r ≡ Err fault

-- The part has these tokens, and this is their result.
pub record IsLexed (input : List ℕ) (part : Split) (r : Result Typed Fault) : Type 0 where
  pub tokens : List Token
  pub lexed : AreTokens (source_of input part) part.marked tokens
  pub come : TokensCome tokens r

-- what the source part of an input comes to, from its bytes on
abbrev pub PartComes : List ℕ → Split → Result Typed Fault → Type 0
PartComes input part r = IsMisspelled input part r ⊎ IsLexed input part r

-- what an input comes to
pub record Comes (input : List ℕ) (r : Result Typed Fault) : Type 0 where
  pub part : Split
  pub split : IsSplit input part
  pub comes : PartComes input part r

-- the program of an accepted input
abbrev pub IsProgram : List ℕ → Typed → Type 0
IsProgram input program = Comes input (Ok program)

-- the first fault of an input that is not accepted
abbrev pub IsFirstFault : List ℕ → Fault → Type 0
IsFirstFault input fault = Comes input (Err fault)

-- an input whose source part is a program
abbrev pub IsAccepted : List ℕ → Type 0
IsAccepted input = (program : Typed) × IsProgram input program
