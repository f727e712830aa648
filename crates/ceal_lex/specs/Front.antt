-- What the code finds at the front of bytes.
use Rattle.std.specs.Prelude.{ℕ, ◌+◌, ◌<◌, ◌≤◌, ◌≡◌, ◌≢◌, Bool, not, ◌||◌, IsTrue, List, [], ◌∷◌, ◌++◌, length}
use Rattle.ceal_base.specs.Digits.{is_digit}
use Rattle.ceal_lex.specs.declared.token.Sign.{Sign}
use Rattle.ceal_lex.specs.declared.token.TokenKind.{TokenKind}
use Rattle.ceal_lex.specs.declared.front.Front.{Front}
use Rattle.ceal_lex.specs.declared.front.Front.TheVariants.{Blank, Found, Broken}
use Rattle.ceal_lex.specs.Characters.{SLASH, STAR, is_space, is_letter}
use Rattle.ceal_lex.specs.Spelling.{sign_text}
use Rattle.ceal_lex.specs.Pieces.{Piece, token, piece_then, Stands, IsClosedFirst}
use Rattle.ceal_lex.specs.Tokens.{tokens_from}
use Rattle.ceal_lex.specs.Faults.{FaultStands}

-- The first byte passes the test.
abbrev pub BeginsWith : (ℕ → Bool) → List ℕ → Type 0
BeginsWith test [] = ⊥
BeginsWith test (b ∷ bs) = IsTrue (test b)

-- neither white space nor what a word or a number begins with
abbrev pub is_other : ℕ → Bool
is_other b = not (is_space b || is_letter b || is_digit b)

-- no `*/` closes the comment
abbrev pub IsNeverClosed : List ℕ → Type 0
IsNeverClosed text = (a b : List ℕ) → text ≢ a ++ STAR ∷ SLASH ∷ b

-- The first `*/` is at byte n.
pub record ClosesAt (n : ℕ) (text : List ℕ) : Type 0 where
  pub inside : List ℕ
  pub rest : List ℕ
  pub whole : inside ++ STAR ∷ SLASH ∷ rest ≡ text
  pub first : IsClosedFirst inside rest
  pub counted : n ≡ length inside

-- The bytes begin with the sign, which has n bytes, and with no longer one.
pub record IsLongestSign (s : Sign) (n : ℕ) (bytes : List ℕ) : Type 0 where
  pub rest : List ℕ
  pub begins : bytes ≡ sign_text s ++ rest
  pub counted : n ≡ length (sign_text s)
  pub longest : (t : Sign) (more : List ℕ) → bytes ≡ sign_text t ++ more → length (sign_text t) ≤ n

-- The bytes begin with white space or a comment of n bytes.
pub record IsBlank (n : ℕ) (bytes : List ℕ) : Type 0 where
  pub piece : Piece
  pub rest : List ℕ
  pub begins : piece_then piece rest ≡ bytes
  pub stands : Stands piece rest
  pub counted : length rest + n ≡ length bytes
  pub no_token : (at : ℕ) (ps : List Piece) → tokens_from at (piece ∷ ps) ≡ tokens_from (at + n) ps

-- The bytes begin with a token of n bytes.
pub record IsFound (kind : TokenKind) (n : ℕ) (bytes : List ℕ) : Type 0 where
  pub text : List ℕ
  pub rest : List ℕ
  pub begins : text ++ rest ≡ bytes
  pub stands : Stands (token kind text) rest
  pub counted : n ≡ length text

-- what the bytes begin with: white space or a comment, a token, or a fault
abbrev pub IsFront : Front → List ℕ → Type 0
IsFront (Blank n) bytes = IsBlank n bytes
IsFront (Found kind n) bytes = IsFound kind n bytes
IsFront (Broken code n) bytes = FaultStands code bytes n

-- how many bytes it takes
abbrev pub bytes_taken : Front → ℕ
bytes_taken (Blank n) = n
bytes_taken (Found kind n) = n
bytes_taken (Broken code n) = n

-- It takes a byte at least, and all at most.
abbrev pub IsTaken : Front → List ℕ → Type 0
IsTaken front bytes = (0 < bytes_taken front) × (bytes_taken front ≤ length bytes)
