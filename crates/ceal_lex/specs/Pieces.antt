-- What a source is made of: white space, comments and tokens, one after the other.
use Rattle.std.specs.Prelude.{ℕ, ◌≤◌, ◌≡◌, ◌≢◌, ◌⊎◌, List, [], ◌∷◌, ◌++◌, length, IsTrue}
use Rattle.std.specs.List.{AllByRecursion}
use Rattle.ceal_lex.specs.declared.token.TokenKind.{TokenKind}
use Rattle.ceal_lex.specs.Characters.{LINE_FEED, SLASH, STAR, is_space}
use Rattle.ceal_lex.specs.Spelling.{IsLexeme, Spells}

-- what a source is made of
pub data Piece : Type 0 where
  -- one byte of white space
  space : (byte : ℕ) → Piece
  -- `//`, and what follows it in its line
  line_comment : (text : List ℕ) → Piece
  -- `/*`, the text, and `*/`
  block_comment : (text : List ℕ) → Piece
  token : (kind : TokenKind) (text : List ℕ) → Piece

-- a piece, and the bytes `rest` after it
abbrev pub piece_then : Piece → List ℕ → List ℕ
piece_then (space b) rest = b ∷ rest
piece_then (line_comment text) rest = SLASH ∷ SLASH ∷ text ++ rest
piece_then (block_comment text) rest = SLASH ∷ STAR ∷ text ++ STAR ∷ SLASH ∷ rest
piece_then (token kind text) rest = text ++ rest

-- The bytes begin with `//` or `/*`.
abbrev pub BeginsComment : List ℕ → Type 0
BeginsComment bytes = (c : ℕ) × (more : List ℕ) × (bytes ≡ SLASH ∷ c ∷ more) × ((c ≡ SLASH) ⊎ (c ≡ STAR))

-- The bytes end here, or a line does.
abbrev pub EndsLine : List ℕ → Type 0
EndsLine rest = (rest ≡ []) ⊎ (more : List ℕ) × (rest ≡ LINE_FEED ∷ more)

-- No more bytes of the text and of the rest than these make a lexeme: the longest is taken.
abbrev pub IsLongest : List ℕ → List ℕ → Type 0
IsLongest text rest = (a b : List ℕ) → text ++ rest ≡ a ++ b → IsLexeme a → length a ≤ length text

-- No `*/` is earlier than the one after the text.
abbrev pub IsClosedFirst : List ℕ → List ℕ → Type 0
IsClosedFirst text rest = (a b : List ℕ) → text ++ STAR ∷ SLASH ∷ rest ≡ a ++ STAR ∷ SLASH ∷ b → length text ≤ length a

-- The piece may be where the bytes `rest` follow it.
abbrev pub Stands : Piece → List ℕ → Type 0
Stands (space b) rest = IsTrue (is_space b)
Stands (line_comment text) rest = AllByRecursion (λ b. b ≢ LINE_FEED) text × EndsLine rest
Stands (block_comment text) rest = IsClosedFirst text rest
Stands (token kind text) rest = Spells kind text × IsLongest text rest × (BeginsComment (text ++ rest) → ⊥)

-- pieces one after the other, and then the bytes `rest`
unfoldable pub spelled : List Piece → List ℕ → List ℕ
spelled [] rest = rest
spelled (p ∷ ps) rest = piece_then p (spelled ps rest)

-- Each piece may be where it is, before the bytes `rest`.
unfoldable pub Stand : List Piece → List ℕ → Type 0
Stand [] rest = Unit {0}
Stand (p ∷ ps) rest = Stands p (spelled ps rest) × Stand ps rest
