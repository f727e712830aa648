-- The tokens of a source, with their places.
use Rattle.std.specs.Prelude.{ℕ, ◌+◌, ◌≤◌, ◌≡◌, ◌⊎◌, Bool, List, [], ◌∷◌, ◌++◌, length, if◌then◌else◌}
use Rattle.ceal_base.specs.declared.fault.Span.{Span}
use Rattle.ceal_lex.specs.declared.token.Token.{Token}
use Rattle.ceal_lex.specs.declared.token.TokenKind.TheVariants.{End, Cut}
use Rattle.ceal_lex.specs.Pieces.{Piece, space, line_comment, block_comment, token, spelled, Stand}

-- the span between two bytes
abbrev pub span : ℕ → ℕ → Span
span from to = record { from = from; to = to }

-- the tokens of pieces, the first of which begins at byte `at`
unfoldable pub tokens_from : ℕ → List Piece → List Token
tokens_from at [] = []
tokens_from at (space b ∷ ps) = tokens_from (at + 1) ps
tokens_from at (line_comment text ∷ ps) = tokens_from (at + (2 + length text)) ps
tokens_from at (block_comment text ∷ ps) = tokens_from (at + (4 + length text)) ps
tokens_from at (token kind text ∷ ps) =
    record { kind = kind; span = span at (at + length text) } ∷ tokens_from (at + length text) ps

-- the last token of a source of this many bytes: at the line `%%`, or at the end of an input that has none
abbrev pub last_token : Bool → ℕ → Token
last_token marked at = record { kind = if marked then End else Cut; span = span at at }

-- The source is made of pieces, and these are their tokens and the ending.
pub record AreTokens (source : List ℕ) (marked : Bool) (tokens : List Token) : Type 0 where
  pub pieces : List Piece
  pub stand : Stand pieces []
  pub spelled : spelled pieces [] ≡ source
  pub same : tokens ≡ tokens_from 0 pieces ++ last_token marked (length source) ∷ []

-- The last token is End or Cut.
pub record IsEnded (tokens : List Token) : Type 0 where
  pub before : List Token
  pub last : Token
  pub whole : tokens ≡ before ++ last ∷ []
  pub kind : (last.kind ≡ End) ⊎ (last.kind ≡ Cut)

-- The spans are between `from` and `to`, one after the other.
abbrev pub InOrder : ℕ → ℕ → List Token → Type 0
InOrder from to [] = from ≤ to
InOrder from to (t ∷ ts) = (from ≤ t.span.from) × (t.span.from ≤ t.span.to) × InOrder t.span.to to ts
