-- The first fault of a source: where there can be no piece.
use Rattle.std.specs.Prelude.{ℕ, ◌+◌, ◌<◌, ◌≡◌, ◌≢◌, ◌⊎◌, List, ◌∷◌, ◌++◌, length, IsFalse}
use Rattle.ceal_base.specs.declared.fault.Fault.{Fault}
use Rattle.ceal_base.specs.declared.fault.FaultCode.{FaultCode}
use Rattle.ceal_base.specs.declared.fault.FaultCode.TheVariants.{S1, S2}
use Rattle.ceal_base.specs.Digits.{number_of}
use Rattle.ceal_lex.specs.Characters.{SLASH, STAR, is_space}
use Rattle.ceal_lex.specs.Spelling.{AreDigits, IsLexeme, LARGEST}
use Rattle.ceal_lex.specs.Pieces.{Piece, IsLongest, spelled, Stand}
use Rattle.ceal_lex.specs.Tokens.{span}

-- A comment begins with `/*` and has no `*/` after it.
pub record IsOpen (rest : List ℕ) : Type 0 where
  pub text : List ℕ
  pub begins : rest ≡ SLASH ∷ STAR ∷ text
  pub never_closed : (a b : List ℕ) → text ≢ a ++ STAR ∷ SLASH ∷ b

-- The first byte begins no token and is no white space.
pub record BeginsNothing (rest : List ℕ) : Type 0 where
  pub byte : ℕ
  pub more : List ℕ
  pub begins : rest ≡ byte ∷ more
  pub no_space : IsFalse (is_space byte)
  pub no_lexeme : (a b : List ℕ) → rest ≡ a ++ b → IsLexeme a → ⊥

-- The bytes begin with a number of this many digits, and it is too large.
pub record BeginsTooLarge (rest : List ℕ) (count : ℕ) : Type 0 where
  pub digits : List ℕ
  pub more : List ℕ
  pub begins : rest ≡ digits ++ more
  pub all : AreDigits digits
  pub longest : IsLongest digits more
  pub large : LARGEST < number_of digits
  pub counted : count ≡ length digits

-- The fault where the bytes `rest` begin, and how many bytes it takes.
abbrev pub FaultStands : FaultCode → List ℕ → ℕ → Type 0
FaultStands S1 rest count = (IsOpen rest ⊎ BeginsNothing rest) × (count ≡ 1)
FaultStands S2 rest count = BeginsTooLarge rest count
FaultStands _ rest count = ⊥

-- Pieces are before it, and the fault is at byte `at`, after them.
pub record IsFirstFault (source : List ℕ) (fault : Fault) : Type 0 where
  pub pieces : List Piece
  pub at : ℕ
  pub rest : List ℕ
  pub count : ℕ
  pub stand : Stand pieces rest
  pub spelled : spelled pieces rest ≡ source
  pub place : at + length rest ≡ length source
  pub stands : FaultStands fault.code rest count
  pub span : fault.span ≡ span at (at + count)
