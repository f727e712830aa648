-- The tokens of a source are spelled by their own texts, which are not much longer than the source.
use Rattle.std.proofs.Common.{◌≡◌, ℕ, ◌+◌, ◌*◌, ◌≤◌, Bool, true, false, List, [], ◌∷◌, ◌++◌, length, refl, sym, subst, arith}
use Rattle.std.proofs.lemmas.List.{length-append}
use Rattle.ceal_lex.specs.declared.token.Token.{Token}
use Rattle.ceal_lex.specs.declared.token.TokenKind.{TokenKind}
use Rattle.ceal_lex.specs.declared.token.TokenKind.TheVariants.{Name, Number, Reserved, Sign, End, Cut}
use Rattle.ceal_lex.specs.Characters.{SLASH, STAR}
use Rattle.ceal_lex.specs.Pieces.{Piece, space, line_comment, block_comment, token, Stand, spelled}
use Rattle.ceal_lex.specs.Spelling.{Spells}
use Rattle.ceal_lex.specs.Tokens.{AreTokens, last_token, tokens_from}
use Rattle.ceal_print.specs.PrintWords.{kind_text, gap}
use Rattle.ceal_print.proofs.PrintLexemes.{own_text, short_text}
use Rattle.ceal_print.proofs.PrintMarks.{total, SpellsBefore, AreSpelled}

spells_before : (k : TokenKind) (us : List Token) → Spells k (kind_text k) → AreSpelled us → SpellsBefore k us (AreSpelled us)
spells_before (Name x) us h s = (h, s)
spells_before (Number n) us h s = (h, s)
spells_before (Reserved w) us h s = s
spells_before (Sign g) us h s = s
spells_before End us h s = absurd h
spells_before Cut us h s = absurd h

pieces_spelled : (ps : List Piece) (at : ℕ) (rest : List ℕ) (us : List Token) → Stand ps rest → AreSpelled us → AreSpelled (tokens_from at ps ++ us)
unfolding tokens_from Stand AreSpelled
pieces_spelled [] at rest us h s = s
pieces_spelled (space b ∷ ps) at rest us h s = pieces_spelled ps (at + 1) rest us h.1 s
pieces_spelled (line_comment text ∷ ps) at rest us h s = pieces_spelled ps (at + (2 + length text)) rest us h.1 s
pieces_spelled (block_comment text ∷ ps) at rest us h s = pieces_spelled ps (at + (4 + length text)) rest us h.1 s
pieces_spelled (token k text ∷ ps) at rest us h s =
    spells_before k (tokens_from (at + length text) ps ++ us) (own_text k text h.0.0) (pieces_spelled ps (at + length text) rest us h.1 s)

pieces_total : (ps : List Piece) (at : ℕ) (rest : List ℕ) (us : List Token) → Stand ps rest → total (tokens_from at ps ++ us) ≤ 21 * length (spelled ps rest) + total us
unfolding tokens_from Stand spelled total
pieces_total [] at rest us h = omega arith
pieces_total (space b ∷ ps) at rest us h = let k = pieces_total ps (at + 1) rest us h.1 in omega (arith, k)
pieces_total (line_comment text ∷ ps) at rest us h =
    let k = pieces_total ps (at + (2 + length text)) rest us h.1 in
    let l = length-append text (spelled ps rest) in omega (arith, k, l)
pieces_total (block_comment text ∷ ps) at rest us h =
    let k = pieces_total ps (at + (4 + length text)) rest us h.1 in
    let l = length-append text (STAR ∷ SLASH ∷ spelled ps rest) in omega (arith, k, l)
pieces_total (token j text ∷ ps) at rest us h =
    let k = pieces_total ps (at + length text) rest us h.1 in
    let l = length-append text (spelled ps rest) in
    let m = length-append (kind_text j) (gap j) in
    let short = short_text j text h.0.0 in omega (arith, k, l, m, short)

ending_spelled : (marked : Bool) (n : ℕ) → AreSpelled (last_token marked n ∷ [])
unfolding AreSpelled
ending_spelled true n = refl
ending_spelled false n = refl

ending_total : (marked : Bool) (n : ℕ) → total (last_token marked n ∷ []) ≡ 0
unfolding total
ending_total true n = omega arith
ending_total false n = omega arith

module _ (source : List ℕ) (marked : Bool) (tokens : List Token) (h : AreTokens source marked tokens) where
  pub source_spelled : AreSpelled tokens
  source_spelled =
      subst AreSpelled (sym h.same) (pieces_spelled h.pieces 0 [] (last_token marked (length source) ∷ []) h.stand (ending_spelled marked (length source)))

  pub source_total : total tokens ≤ 21 * length source
  source_total =
      let k = pieces_total h.pieces 0 [] (last_token marked (length source) ∷ []) h.stand in
      let none = ending_total marked (length source) in
      let l : total tokens ≤ 21 * length (spelled h.pieces []) = subst (λ (us : List Token). total us ≤ 21 * length (spelled h.pieces [])) (sym h.same) (omega (arith, k, none)) in
      subst (λ (bytes : List ℕ). total tokens ≤ 21 * length bytes) h.spelled l
