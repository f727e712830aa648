-- The tokens of a text are in it or at its end.
use Rattle.std.proofs.Common.{◌≡◌, ◌+◌, ℕ, Bool, List, [], ◌∷◌, ◌++◌, length, ap, arith}
use Rattle.std.proofs.lemmas.List.{length-append}
use Rattle.ceal_lex.specs.Characters.{STAR, SLASH}
use Rattle.ceal_lex.specs.Pieces.{Piece, space, line_comment, block_comment, token, spelled}
use Rattle.ceal_lex.specs.Tokens.{AreTokens, last_token, tokens_from}
use Rattle.ceal_lex.specs.declared.token.Token.{Token}
use Rattle.ceal_serve.proofs.Places.Near.{Each, Near}

abbrev pub TokenNear : ℕ → Token → Type 0
TokenNear n t = Near n t.span

pieces-near : (ps : List Piece) (at to : ℕ) (marked : Bool) → at + length (spelled ps []) ≡ to → Each (TokenNear to) (tokens_from at ps ++ last_token marked to ∷ [])
unfolding spelled tokens_from Each
pieces-near [] at to marked e = (omega arith, tt)
pieces-near (space b ∷ ps) at to marked e = pieces-near ps (at + 1) to marked (omega (arith, e))
pieces-near (line_comment t ∷ ps) at to marked e =
    let l = length-append t (spelled ps []) in
    pieces-near ps (at + (2 + length t)) to marked (omega (arith, e, l))
pieces-near (block_comment t ∷ ps) at to marked e =
    let l = length-append t (STAR ∷ SLASH ∷ spelled ps []) in
    pieces-near ps (at + (4 + length t)) to marked (omega (arith, e, l))
pieces-near (token k t ∷ ps) at to marked e =
    let l = length-append t (spelled ps []) in
    (omega (arith, e, l), pieces-near ps (at + length t) to marked (omega (arith, e, l)))

pub tokens-near : (source : List ℕ) (marked : Bool) (ts : List Token) → AreTokens source marked ts → Each (TokenNear (length source)) ts
tokens-near source marked ts a =
    let l = ap length a.spelled in
    let near = pieces-near a.pieces 0 (length source) marked (omega (arith, l)) in
    rw a.same near
