-- The pieces of a source, one more at a time.
use Rattle.std.proofs.Common.{◌≡◌, ℕ, ◌+◌, ◌≤◌, List, [], ◌∷◌, ◌++◌, length, drop, refl, sym, ap, ◌∙◌, subst, arith}
use Rattle.std.proofs.lemmas.List.{append-nil, append_assoc, length-append, length-drop, drop-drop, drop_at, drop_all}
use Rattle.ceal_base.specs.declared.fault.FaultCode.{FaultCode}
use Rattle.ceal_lex.specs.declared.token.Token.{Token}
use Rattle.ceal_lex.specs.declared.token.TokenKind.{TokenKind}
use Rattle.ceal_lex.specs.Characters.{SLASH, STAR}
use Rattle.ceal_lex.specs.Pieces.{Piece, space, line_comment, block_comment, token, piece_then, Stands, spelled, Stand}
use Rattle.ceal_lex.specs.Tokens.{span, tokens_from}
use Rattle.ceal_lex.specs.Faults.{FaultStands, IsFirstFault}
use Rattle.ceal_lex.specs.Front.{IsBlank, IsFound}
use Rattle.ceal_lex.specs.Reading.{Reads}

-- Pieces that make the bytes `rest`, which begin at byte `at`, complete the source, and their tokens follow the tokens
-- so far.
abbrev pub Continues : List ℕ → List ℕ → ℕ → List Token → Type 0
Continues source rest at tokens = (ps : List Piece) (end : List ℕ) → Stand ps end → spelled ps end ≡ rest → Reads source end (tokens ++ tokens_from at ps)

-- what a piece puts before the rest
text_of : Piece → List ℕ
text_of (space b) = b ∷ []
text_of (line_comment text) = SLASH ∷ SLASH ∷ text
text_of (block_comment text) = SLASH ∷ STAR ∷ text ++ STAR ∷ SLASH ∷ []
text_of (token kind text) = text

followed_text : (p : Piece) (rest : List ℕ) → piece_then p rest ≡ text_of p ++ rest
unfolding text_of
followed_text (space b) rest = refl
followed_text (line_comment text) rest = refl
followed_text (block_comment text) rest = ap (λ (x : List ℕ). SLASH ∷ STAR ∷ x) (sym (append_assoc text (STAR ∷ SLASH ∷ []) rest))
followed_text (token kind text) rest = refl

-- what is left after a piece of n bytes
followed_rest : (p : Piece) (rest : List ℕ) (n : ℕ) (bytes : List ℕ) → piece_then p rest ≡ bytes → length rest + n ≡ length bytes → rest ≡ drop n bytes
followed_rest p rest n bytes e l =
    let f = sym (followed_text p rest) ∙ e in
    let k = ap length f in
    let m = length-append (text_of p) rest in
    sym (drop_at (text_of p) rest n (omega (arith, k, m, l))) ∙ ap (drop n) f

pub at_start : (source : List ℕ) → Continues source source 0 []
at_start source ps end st sp = record { pieces = ps; stand = st; spelled = sp; same = refl }

module _ (source : List ℕ) (at : ℕ) (tokens : List Token) (so_far : Continues source (drop at source) at tokens) where
  pub after_blank : (n : ℕ) → IsBlank n (drop at source) → Continues source (drop (at + n) source) (at + n) tokens
  unfolding Stand spelled
  after_blank n b ps end st sp =
      let left : b.rest ≡ drop (at + n) source = followed_rest b.piece b.rest n (drop at source) b.begins b.counted ∙ drop-drop n at source in
      let next : spelled ps end ≡ b.rest = sp ∙ sym left in
      let stands : Stands b.piece (spelled ps end) = subst (Stands b.piece) (sym next) b.stands in
      let r = so_far (b.piece ∷ ps) end (stands, st) (ap (piece_then b.piece) next ∙ b.begins) in
      record {
        pieces = r.pieces;
        stand = r.stand;
        spelled = r.spelled;
        same = ap (λ (ts : List Token). tokens ++ ts) (sym (b.no_token at ps)) ∙ r.same;
      }

  pub after_token : (k : TokenKind) (n : ℕ) → IsFound k n (drop at source)
      → Continues source (drop (at + n) source) (at + n) (tokens ++ record { kind = k; span = span at (at + n) } ∷ [])
  unfolding Stand spelled tokens_from
  after_token k n f ps end st sp =
      let l = ap length f.begins in
      let m = length-append f.text f.rest in
      let left : f.rest ≡ drop (at + n) source =
      followed_rest (token k f.text) f.rest n (drop at source) f.begins (omega (arith, l, m, f.counted)) ∙ drop-drop n at source in
      let next : spelled ps end ≡ f.rest = sp ∙ sym left in
      let stands : Stands (token k f.text) (spelled ps end) = subst (Stands (token k f.text)) (sym next) f.stands in
      let r = so_far (token k f.text ∷ ps) end (stands, st) (ap (piece_then (token k f.text)) next ∙ f.begins) in
      record {
        pieces = r.pieces;
        stand = r.stand;
        spelled = r.spelled;
        same = append_assoc tokens (record { kind = k; span = span at (at + n) } ∷ []) (tokens_from (at + n) ps)
            ∙ ap (λ (i : ℕ). tokens ++ record { kind = k; span = span at (at + i) } ∷ tokens_from (at + i) ps) f.counted ∙ r.same;
      }

  pub at_end : length source ≤ at → Reads source [] tokens
  unfolding Stand spelled tokens_from
  at_end h =
      let r = so_far [] [] tt (sym (drop_all at source h)) in
      record { pieces = r.pieces; stand = r.stand; spelled = r.spelled; same = sym (append-nil tokens) ∙ r.same }

  pub at_fault : (c : FaultCode) (n : ℕ) → at ≤ length source → FaultStands c (drop at source) n → IsFirstFault source (record { code = c; span = span at (at + n) })
  unfolding Stand spelled
  at_fault c n within f =
      let r = so_far [] (drop at source) tt refl in
      let l = length-drop at source in
      record {
        pieces = r.pieces;
        at = at;
        rest = drop at source;
        count = n;
        stand = r.stand;
        spelled = r.spelled;
        place = omega (arith, l, within);
        stands = f;
        span = refl;
      }
