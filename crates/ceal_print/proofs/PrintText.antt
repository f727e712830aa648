-- The printed text has the printed tokens.
use Rattle.std.proofs.Common.{◌≡◌, ℕ, ◌+◌, ◌-◌, ◌≤◌, ◌<◌, ◌^◌, true, List, [], ◌∷◌, ◌++◌, length, get_or, refl, ap, sym, ◌∙◌, subst, arith, inl, inr, append_assoc, append-nil}
use Rattle.std.proofs.lemmas.Bool.{cases_lt}
use Rattle.std.proofs.lemmas.List.{length-append}
use Rattle.std.proofs.Math.Seq.{get_or-append_seam, take-append_seam}
use Rattle.ceal_base.specs.declared.fault.Span.{Span}
use Rattle.ceal_base.specs.declared.syntax.Entry.{Entry}
use Rattle.ceal_base.specs.declared.syntax.Entry.TheVariants.{Struct, Function}
use Rattle.ceal_lex.specs.declared.parts.Split.{Split}
use Rattle.ceal_lex.specs.declared.token.Reserved.TheVariants as Words
use Rattle.ceal_lex.specs.declared.token.Sign.{Sign as SignOf}
use Rattle.ceal_lex.specs.declared.token.Sign.TheVariants as Signs
use Rattle.ceal_lex.specs.declared.token.TokenKind.{TokenKind}
use Rattle.ceal_lex.specs.declared.token.TokenKind.TheVariants.{Name, Number, Reserved, Sign, End, Cut}
use Rattle.ceal_lex.specs.Characters.{LINE_FEED, PERCENT, is_space}
use Rattle.ceal_lex.specs.Parts.{HasMark, IsBeforeLine, IsLine, IsMark, IsSplit, source_of}
use Rattle.ceal_lex.specs.Pieces.{Piece, space, token, Stand, spelled}
use Rattle.ceal_lex.specs.Spelling.{Spells, sign_text}
use Rattle.ceal_lex.specs.Tokens.{AreTokens, last_token, span, tokens_from}
use Rattle.ceal_print.specs.Print.{mark_line}
use Rattle.ceal_print.specs.PrintWords.{SPACE, kind_text, sign_gap, gap, texts, braced, head_kinds, stmts_kinds, member_kinds, entry_kinds, entries_kinds}
use Rattle.ceal_print.proofs.PrintLexemes.{is_lexeme, stands, IsClear, clear_front}
use Rattle.ceal_print.proofs.PrintMarks.{total, AreSpelled}
use Rattle.ceal_print.proofs.PrintPhrase.{spanned}
use Rattle.ceal_print.proofs.PrintSteps.{texts-append}
use Rattle.ceal_grammar.proofs.Words.{word}

-- Each token is spelled by its own text.
unfoldable pub AllSpell : List TokenKind → Type 0
AllSpell [] = Unit {0}
AllSpell (k ∷ ks) = Spells k (kind_text k) × AllSpell ks

module _ (σ : List TokenKind → Span) where
  not_alone : (ks : List TokenKind) (k : TokenKind) → spanned σ (ks ++ k ∷ []) ≡ [] → ⊥
  unfolding spanned
  not_alone [] k h = absurd (cc)
  not_alone (j ∷ ks) k h = absurd (cc)

  pub all_spell : (ks : List TokenKind) → AreSpelled (spanned σ (ks ++ End ∷ [])) → AllSpell ks
  unfolding spanned AreSpelled AllSpell
  all_spell [] h = tt
  all_spell (Name text ∷ ks) h = (h.0, all_spell ks h.1)
  all_spell (Number n ∷ ks) h = (h.0, all_spell ks h.1)
  all_spell (Reserved w ∷ ks) h = (refl, all_spell ks h)
  all_spell (Sign s ∷ ks) h = (refl, all_spell ks h)
  all_spell (End ∷ ks) h = absurd (not_alone ks End h)
  all_spell (Cut ∷ ks) h = absurd (not_alone ks End h)

  pub total_texts : (ks : List TokenKind) → total (spanned σ ks) ≡ length (texts ks)
  unfolding spanned total texts
  total_texts [] = refl
  total_texts (k ∷ ks) =
      let a = length-append (kind_text k) (gap k ++ texts ks) in
      let b = length-append (gap k) (texts ks) in
      let c = length-append (kind_text k) (gap k) in
      let d = total_texts ks in omega (arith, a, b, c, d)

-- The byte after a token.
abbrev pub gap_byte : TokenKind → ℕ
gap_byte (Sign s) = sign_gap s
gap_byte _ = SPACE

gap_blank : (k : TokenKind) → is_space (gap_byte k) ≡ true
gap_blank (Sign Signs.Arrow) = refl
gap_blank (Sign _) = refl
gap_blank _ = refl

gap_is : (k : TokenKind) (text : List ℕ) → Spells k text → gap k ≡ gap_byte k ∷ []
gap_is (Name x) text h = refl
gap_is (Number n) text h = refl
gap_is (Reserved w) text h = refl
gap_is (Sign s) text h = refl
gap_is End text h = absurd h
gap_is Cut text h = absurd h

-- The pieces of the text.
unfoldable pub pieces_of : List TokenKind → List Piece
pieces_of [] = []
pieces_of (k ∷ ks) = token k (kind_text k) ∷ space (gap_byte k) ∷ pieces_of ks

pub pieces_spelled : (ks : List TokenKind) → AllSpell ks → spelled (pieces_of ks) [] ≡ texts ks
unfolding pieces_of spelled texts AllSpell
pieces_spelled [] h = refl
pieces_spelled (k ∷ ks) h =
    ap (λ (u : List ℕ). kind_text k ++ gap_byte k ∷ u) (pieces_spelled ks h.1)
    ∙ ap (λ (g : List ℕ). kind_text k ++ (g ++ texts ks)) (sym (gap_is k (kind_text k) h.0))

pub pieces_stand : (ks : List TokenKind) → AllSpell ks → Stand (pieces_of ks) []
unfolding pieces_of spelled Stand AllSpell
pieces_stand [] h = tt
pieces_stand (k ∷ ks) h = (
  stands (gap_byte k) (spelled (pieces_of ks) []) (gap_blank k) k (kind_text k) h.0,
  (gap_blank k, pieces_stand ks h.1),
)

-- The place of a token, by the tokens from it on, in a text of n bytes.
abbrev pub first_length : List TokenKind → ℕ
first_length [] = 0
first_length (k ∷ ks) = length (kind_text k)

pub place : ℕ → List TokenKind → Span
place n ks = span (n - length (texts ks)) (n - length (texts ks) + first_length ks)

placed_tokens : (n at : ℕ) (ks : List TokenKind) → AllSpell ks → at + length (texts (ks ++ End ∷ [])) ≡ n
    → tokens_from at (pieces_of ks) ++ last_token true n ∷ [] ≡ spanned (place n) (ks ++ End ∷ [])
unfolding pieces_of tokens_from spanned place texts AllSpell
placed_tokens n at [] h e =
    let zero_off : n - 0 ≡ n = omega arith in
    let zero_on : n - 0 + 0 ≡ n = omega arith in
    λ i. word End (span (sym zero_off i) (sym zero_on i)) ∷ []
placed_tokens n at (k ∷ ks) h e =
    let g = ap length (gap_is k (kind_text k) h.0) in
    let a = length-append (kind_text k) (gap k ++ texts (ks ++ End ∷ [])) in
    let b = length-append (gap k) (texts (ks ++ End ∷ [])) in
    let here : at ≡ n - length (texts (k ∷ ks ++ End ∷ [])) = omega (arith, e) in
    let rest = placed_tokens n (at + length (kind_text k) + 1) ks h.1 (omega (arith, e, g, a, b)) in
    λ i. word k (span (here i) (here i + length (kind_text k))) ∷ rest i

pub text_tokens : (ks : List TokenKind) → AllSpell ks → AreTokens (texts ks) true (spanned (place (length (texts ks))) (ks ++ End ∷ []))
unfolding texts
text_tokens ks h =
    let e : length (texts (ks ++ End ∷ [])) ≡ length (texts ks) = ap length (texts-append ks (End ∷ []) ∙ append-nil (texts ks)) in record {
      pieces = pieces_of ks;
      stand = pieces_stand ks h;
      spelled = pieces_spelled ks h;
      same = sym (placed_tokens (length (texts ks)) 0 ks h (omega (arith, e)));
    }

-- No `%%` begins in the text.
texts_clear : (ks : List TokenKind) (rest : List ℕ) → AllSpell ks → IsClear (length (texts ks)) (texts ks ++ rest)
unfolding texts AllSpell
texts_clear [] rest h = λ i l p q. omega (arith, l)
texts_clear (k ∷ ks) rest h =
    let front : texts (k ∷ ks) ++ rest ≡ kind_text k ++ gap_byte k ∷ (texts ks ++ rest) =
    ap (λ (g : List ℕ). (kind_text k ++ (g ++ texts ks)) ++ rest) (gap_is k (kind_text k) h.0)
    ∙ append_assoc (kind_text k) (gap_byte k ∷ texts ks) rest in
    let many : length (texts (k ∷ ks)) ≡ length (kind_text k) + 1 + length (texts ks) =
    let g = ap length (gap_is k (kind_text k) h.0) in
    let a = length-append (kind_text k) (gap k ++ texts ks) in
    let b = length-append (gap k) (texts ks) in omega (arith, a, b, g) in
    let clear = clear_front (kind_text k) (is_lexeme k (kind_text k) h.0) (gap_byte k) (gap_blank k) (texts ks ++ rest) (length (texts ks)) (texts_clear ks rest h.1) in
    rw (many, front) clear

abbrev PERCENTS : List ℕ → List ℕ
PERCENTS rest = PERCENT ∷ PERCENT ∷ rest

mark_begins : (text line after : List ℕ) → IsMark text → IsLine text line after → (rest : List ℕ) × (line ++ after ≡ PERCENTS rest)
mark_begins text line after (inl e) (inl f) = (LINE_FEED ∷ after, ap (λ (x : List ℕ). x ++ after) (f ∙ ap (λ (x : List ℕ). x ++ LINE_FEED ∷ []) e))
mark_begins text line after (inr e) (inl f) = (13 ∷ LINE_FEED ∷ after, ap (λ (x : List ℕ). x ++ after) (f ∙ ap (λ (x : List ℕ). x ++ LINE_FEED ∷ []) e))
mark_begins text line after (inl e) (inr f) = (after, ap (λ (x : List ℕ). x ++ after) (f.0 ∙ e))
mark_begins text line after (inr e) (inr f) = (13 ∷ after, ap (λ (x : List ℕ). x ++ after) (f.0 ∙ e))

none_before : (n : ℕ) (input : List ℕ) → IsClear n input → (b a : List ℕ) → HasMark input b a → n ≤ length b
none_before n input clear b a h = elim (cases_lt (length b) n) [
  | inl l ↦
      let begins = mark_begins h.text h.line a h.mark h.is_line in
      let whole : input ≡ b ++ PERCENTS begins.0 = h.whole ∙ ap (λ (x : List ℕ). b ++ x) begins.1 in
      let longer : input ≡ (b ++ PERCENT ∷ []) ++ PERCENT ∷ begins.0 = whole ∙ sym (append_assoc b (PERCENT ∷ []) (PERCENT ∷ begins.0)) in
      let one : length (b ++ PERCENT ∷ []) ≡ length b + 1 = length-append b (PERCENT ∷ []) in
      absurd (clear (length b) l
      (ap (λ (x : List ℕ). get_or x (length b) 0) whole ∙ get_or-append_seam b PERCENT (PERCENT ∷ begins.0) 0)
      (ap (λ (x : List ℕ). get_or x (length b + 1) 0) longer ∙ ap (λ (k : ℕ). get_or ((b ++ PERCENT ∷ []) ++ PERCENT ∷ begins.0) k 0) (sym one)
      ∙ get_or-append_seam (b ++ PERCENT ∷ []) PERCENT begins.0 0))
  | inr l ↦ l
]

-- The text of entries ends a line.
line_after : (ks : List TokenKind) (s : SignOf) → sign_gap s ≡ LINE_FEED → IsBeforeLine (texts (ks ++ Sign s ∷ []))
unfolding texts
line_after ks s e = inr (
  texts ks ++ sign_text s,
  texts-append ks (Sign s ∷ [])
      ∙ ap (λ (b : ℕ). texts ks ++ (sign_text s ++ b ∷ [])) e
      ∙ sym (append_assoc (texts ks) (sign_text s) (LINE_FEED ∷ [])),
)

entry_end : (e : Entry) → IsBeforeLine (texts (entry_kinds e))
entry_end (Struct s) = line_after (Reserved Words.Struct ∷ Name s.name.text ∷ braced (member_kinds s.fields)) Signs.Semicolon refl
entry_end (Function f) =
    let head : List TokenKind = head_kinds f.initialiser f.name f.params in
    let inside : List TokenKind = Sign Signs.RightParenthesis ∷ Sign Signs.LeftBrace ∷ stmts_kinds f.body in
    subst (λ (ks : List TokenKind). IsBeforeLine (texts ks)) (append_assoc head inside (Sign Signs.RightBrace ∷ [])) (line_after (head ++ inside) Signs.RightBrace refl)

line_joined : (a b : List ℕ) → IsBeforeLine a → IsBeforeLine b → IsBeforeLine (a ++ b)
line_joined a b h (inl e) = subst IsBeforeLine (sym (ap (λ (x : List ℕ). a ++ x) e ∙ append-nil a)) h
line_joined a b h (inr (earlier, e)) = inr (a ++ earlier, ap (λ (x : List ℕ). a ++ x) e ∙ sym (append_assoc a earlier (LINE_FEED ∷ [])))

pub entries_end : (es : List Entry) → IsBeforeLine (texts (entries_kinds es))
unfolding texts entries_kinds
entries_end [] = inl refl
entries_end (e ∷ es) =
    subst IsBeforeLine (sym (texts-append (entry_kinds e) (entries_kinds es)))
    (line_joined (texts (entry_kinds e)) (texts (entries_kinds es)) (entry_end e) (entries_end es))

-- The text, and the line `%%` after it.
pub text_split : (ks : List TokenKind) → AllSpell ks → IsBeforeLine (texts ks) → length (texts ks) + 3 < 2 ^ 32 → (part : Split) × IsSplit (texts ks ++ mark_line) part
    × (source_of (texts ks ++ mark_line) part ≡ texts ks) × (part.marked ≡ true)
text_split ks h line small =
    let n : ℕ = length (texts ks) in
    let l : length (texts ks ++ mark_line) ≡ n + 3 = length-append (texts ks) mark_line in (
      record { source = span 0 n; marked = true; script = span (n + 3) (n + 3) },
      record {
        small = omega (arith, l, small);
        parts = record {
          before = texts ks;
          after = [];
          first = record {
            mark = record { text = PERCENTS []; line = mark_line; mark = inl refl; is_line = inl refl; starts = line; whole = refl };
            first = none_before n (texts ks ++ mark_line) (texts_clear ks mark_line h);
          };
          source = refl;
          from = omega (arith, l);
          to = omega (arith, l);
        };
      },
      take-append_seam (texts ks) mark_line,
      refl,
    )
