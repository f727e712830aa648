-- Which token lists are programs, and which fault is the first.
use Rattle.std.specs.Prelude.{◌≤◌, ◌≡◌, ◌⊎◌, ◌≢◌, List, [], ◌∷◌, ◌++◌}
use Rattle.ceal_base.specs.declared.fault.Fault.{Fault}
use Rattle.ceal_base.specs.declared.fault.FaultCode.{FaultCode}
use Rattle.ceal_base.specs.declared.fault.FaultCode.TheVariants.{S3, S4, S5, S6}
use Rattle.ceal_base.specs.declared.syntax.Tree.{Tree}
use Rattle.ceal_lex.specs.declared.token.Token.{Token}
use Rattle.ceal_lex.specs.declared.token.TokenKind.TheVariants.{End, Cut}
use Rattle.ceal_grammar.specs.Grammar.{Program, PartsProper}
use Rattle.ceal_grammar.specs.Spelled.{Mark, spelled_program, tokens_of}
use Rattle.ceal_grammar.specs.Trees.{program_tree}

-- A program that begins with the tokens `before` and then t, and how it marks t. No limit holds of it.
pub record Begins (before : List Token) (t : Token) : Type 0 where
  pub program : Program
  pub proper : PartsProper program.parts
  pub earlier : List Mark
  pub at : Mark
  pub later : List Mark
  pub spelled : spelled_program program ≡ earlier ++ at ∷ later
  pub same : tokens_of earlier ≡ before
  pub here : at.token ≡ t

-- The limits of nesting, items and operators.
pub record IsWithin (m : Mark) : Type 0 where
  pub nesting : m.nesting ≤ 64
  pub item : m.item ≤ 255
  pub operators : m.operators ≤ 255

-- each token is within the limits
unfoldable pub AllWithin : List Mark → Type 0
AllWithin [] = Unit {0}
AllWithin (m ∷ ms) = IsWithin m × AllWithin ms

-- The tokens are those of a program within the limits, and this is its tree.
pub record Accepts (ts : List Token) (tree : Tree) : Type 0 where
  pub program : Program
  pub proper : PartsProper program.parts
  pub within : AllWithin (spelled_program program)
  pub tokens : tokens_of (spelled_program program) ≡ ts
  pub same : program_tree program ≡ tree

-- There is no fault at t.
abbrev pub IsClean : List Token → Token → Type 0
IsClean before t = (b : Begins before t) × IsWithin b.at

-- The fault at t, after the tokens `before`.
abbrev pub StandsAt : List Token → Token → FaultCode → Type 0
StandsAt before t S3 = (t.kind ≢ End) × (t.kind ≢ Cut) × (Begins before t → ⊥)
StandsAt before t S4 = (b : Begins before t) × (65 ≤ b.at.nesting)
StandsAt before t S5 = ((t.kind ≡ End) ⊎ (t.kind ≡ Cut)) × (Begins before t → ⊥)
StandsAt before t S6 = (b : Begins before t) × (b.at.nesting ≤ 64) × ((256 ≤ b.at.item) ⊎ (256 ≤ b.at.operators))
StandsAt before t _ = ⊥

-- The first token at which there is a fault.
pub record IsFirstFault (ts : List Token) (fault : Fault) : Type 0 where
  pub before : List Token
  pub at : Token
  pub later : List Token
  pub tokens : ts ≡ before ++ at ∷ later
  pub clean : (a : List Token) (t : Token) (b : List Token) → before ≡ a ++ t ∷ b → IsClean a t
  pub span : fault.span ≡ at.span
  pub stands : StandsAt before at fault.code
