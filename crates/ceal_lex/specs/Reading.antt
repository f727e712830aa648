-- What was read of a source so far.
use Rattle.std.specs.Prelude.{ℕ, ◌≡◌, List}
use Rattle.ceal_lex.specs.declared.token.Token.{Token}
use Rattle.ceal_lex.specs.Pieces.{Piece, spelled, Stand}
use Rattle.ceal_lex.specs.Tokens.{tokens_from}

-- The source is made of pieces and then the bytes `rest`, and these are the tokens of the pieces.
pub record Reads (source rest : List ℕ) (tokens : List Token) : Type 0 where
  pub pieces : List Piece
  pub stand : Stand pieces rest
  pub spelled : spelled pieces rest ≡ source
  pub same : tokens ≡ tokens_from 0 pieces
