-- Pieces that pass the test may be where they are.
use Rattle.std.proofs.Common.{◌≡◌, ◌≢◌, ℕ, pos, ◌≤◌, ◌<◌, Bool, true, false, ◌&&◌, not, List, [], ◌∷◌, ◌++◌, length, refl, sym, ap, ◌∙◌, subst, arith, inl, inr}
use Rattle.std.specs.Prelude.{IsTrue, is_none, nat_le}
use Rattle.std.specs.Ordering.{int_eq}
use Rattle.std.specs.List.{AllByRecursion, list_all}
use Rattle.std.specs.Str.{bytes_eq}
use Rattle.std.proofs.lemmas.Bool.{and_parts, cases_lt, false≢true, leb-true, not-true}
use Rattle.std.proofs.lemmas.Bool.Decides.{nat_tests, Decides-int_eq}
use Rattle.std.proofs.lemmas.List.{length-append}
use Rattle.std.proofs.lemmas.Slice.Eq.{bytes_eq-Decides}
use Rattle.ceal_base.specs.Digits.{number_of, is_digit}
use Rattle.ceal_lex.specs.declared.token.Reserved.{Reserved}
use Rattle.ceal_lex.specs.declared.token.Reserved.TheVariants as words
use Rattle.ceal_lex.specs.declared.token.Sign.{Sign}
use Rattle.ceal_lex.specs.declared.token.Sign.TheVariants as signs
use Rattle.ceal_lex.specs.declared.token.TokenKind.{TokenKind}
use Rattle.ceal_lex.specs.declared.token.TokenKind.TheVariants as kinds
use Rattle.ceal_lex.specs.Characters.{is_letter, is_word_byte}
use Rattle.ceal_lex.specs.Pieces.{BeginsComment, IsLongest, Piece, Stand, Stands, block_comment, line_comment, space, spelled, token}
use Rattle.ceal_lex.specs.Spelling.{AreDigits, IsLexeme, IsWord, LARGEST, Spells, reserved_text, sign_text}
use Rattle.ceal_cli.proofs.Accepted.Pieces.{all_may_stand, are_digits, begins_comment, found, is_apart, is_spelled, is_word, may_stand, reserved, sign}

-- What spells a token.
all_pass : (test : ℕ → Bool) (bs : List ℕ) → list_all test bs ≡ true → AllByRecursion (λ b. IsTrue (test b)) bs
all_pass test [] h = tt
all_pass test (b ∷ bs) h = let p = and_parts (test b) (list_all test bs) h in (p.0, all_pass test bs p.1)

word : (text : List ℕ) → is_word text ≡ true → IsWord text
word [] h = false≢true h
word (b ∷ bs) h = let p = and_parts (is_letter b) (list_all is_word_byte bs) h in (p.0, all_pass is_word_byte bs p.1)

digits : (text : List ℕ) → are_digits text ≡ true → AreDigits text
digits [] h = false≢true h
digits (b ∷ bs) h = let p = and_parts (is_digit b) (list_all is_digit bs) h in (p.0, all_pass is_digit bs p.1)

listed_word : (w : Reserved) → is_none (reserved (reserved_text w)) ≡ false
unfolding found
listed_word words.Struct = refl
listed_word _ = refl

not_reserved : (text : List ℕ) → is_none (reserved text) ≡ true → (w : Reserved) → text ≢ reserved_text w
not_reserved text h w e = false≢true (sym (listed_word w) ∙ ap (λ (x : List ℕ). is_none (reserved x)) (sym e) ∙ h)

spells : (k : TokenKind) (text : List ℕ) → is_spelled k text ≡ true → Spells k text
spells (kinds.Name x) text h =
    let p = and_parts (bytes_eq x text) (is_word text && is_none (reserved text)) h in
    let q = and_parts (is_word text) (is_none (reserved text)) p.1 in
    ((bytes_eq-Decides x text).0 p.0, word text q.0, not_reserved text q.1)
spells (kinds.Number n) text h =
    let p = and_parts (int_eq n (pos (number_of text))) (are_digits text && nat_le (number_of text) LARGEST) h in
    let q = and_parts (are_digits text) (nat_le (number_of text) LARGEST) p.1 in
    ((Decides-int_eq n (pos (number_of text))).0 p.0, digits text q.0, leb-true (number_of text) LARGEST q.1)
spells (kinds.Reserved w) text h = (bytes_eq-Decides text (reserved_text w)).0 h
spells (kinds.Sign s) text h = (bytes_eq-Decides text (sign_text s)).0 h
spells kinds.End text h = false≢true h
spells kinds.Cut text h = false≢true h

-- What a lexeme has: only bytes of words, or one or two bytes of a sign.
abbrev InWord : ℕ → Type 0
InWord b = is_word_byte b ≡ true

letter_in_word : (b : ℕ) → is_letter b ≡ true → InWord b
letter_in_word b h = grind (arith, nat_tests)

digit_in_word : (b : ℕ) → is_digit b ≡ true → InWord b
digit_in_word b h = grind (arith, nat_tests)

word_in_word : (a : List ℕ) → IsWord a → AllByRecursion InWord a
word_in_word [] h = absurd h
word_in_word (b ∷ a) h = (letter_in_word b h.0, h.1)

all_digits_in_word : (a : List ℕ) → AllByRecursion (λ b. IsTrue (is_digit b)) a → AllByRecursion InWord a
all_digits_in_word [] h = tt
all_digits_in_word (b ∷ a) h = (digit_in_word b h.0, all_digits_in_word a h.1)

digits_in_word : (a : List ℕ) → AreDigits a → AllByRecursion InWord a
digits_in_word [] h = absurd h
digits_in_word (b ∷ a) h = all_digits_in_word (b ∷ a) h

listed_sign : (s : Sign) → is_none (sign (sign_text s)) ≡ false
unfolding found
listed_sign signs.Arrow = refl
listed_sign _ = refl

short_sign : (s : Sign) → length (sign_text s) ≤ 2
short_sign signs.Arrow = omega arith
short_sign _ = omega arith

-- the byte after `text` in a longer beginning
next_in_word : (text a r rest : List ℕ) (c : ℕ) → text ++ c ∷ rest ≡ a ++ r → AllByRecursion InWord a → length text < length a → InWord c
next_in_word text [] r rest c h p l = absurd (omega (arith, l))
next_in_word [] (x ∷ a) r rest c h p l = let e : x ≡ c = cc h in subst InWord e p.0
next_in_word (y ∷ text) (x ∷ a) r rest c h p l = next_in_word text a r rest c (cc h) p.1 (omega (arith, l))

two_bytes : (b c : ℕ) (text a r rest : List ℕ) → b ∷ text ++ c ∷ rest ≡ a ++ r → length (b ∷ text) < length a → length a ≤ 2 → a ≡ b ∷ c ∷ []
two_bytes b c text [] r rest h l m = absurd (omega (arith, l))
two_bytes b c text (x ∷ []) r rest h l m = absurd (omega (arith, l))
two_bytes b c text (x ∷ y ∷ z ∷ a) r rest h l m = absurd (omega (arith, m))
two_bytes b c [] (x ∷ y ∷ []) r rest h l m = cc h
two_bytes b c (d ∷ text) (x ∷ y ∷ []) r rest h l m = absurd (omega (arith, l))

module _ (b c : ℕ) (text rest : List ℕ) (apart : is_apart (b ∷ text) (c ∷ rest) ≡ true) where
  parts : ((is_word_byte b && is_word_byte c) ≡ false) × (is_none (sign (b ∷ c ∷ [])) ≡ true)
  parts =
      let p = and_parts (not (is_word_byte b && is_word_byte c)) (is_none (sign (b ∷ c ∷ []))) apart in
      (not-true (is_word_byte b && is_word_byte c) p.0, p.1)

  module _ (a r : List ℕ) (h : b ∷ text ++ c ∷ rest ≡ a ++ r) (l : length (b ∷ text) < length a) where
    no_word : AllByRecursion InWord a → ⊥
    no_word p =
        let first = next_in_word [] a r (text ++ c ∷ rest) b h p (omega (arith, l)) in
        let next = next_in_word (b ∷ text) a r rest c h p l in
        false≢true (sym parts.0 ∙ rw (first, next) refl)

    goes_on : IsLexeme a → ⊥
    goes_on (inl w) = no_word (word_in_word a w)
    goes_on (inr (inl d)) = no_word (digits_in_word a d)
    goes_on (inr (inr (s, e))) =
        let short : length a ≤ 2 = let p = short_sign s in let q = ap length e in omega (arith, p, q) in
        let same = two_bytes b c text a r rest h l short in
        false≢true (sym (listed_sign s) ∙ ap (λ (x : List ℕ). is_none (sign x)) (sym e ∙ same) ∙ parts.1)

longest : (text rest : List ℕ) → is_apart text rest ≡ true → IsLongest text rest
longest [] rest apart a r h x = absurd (false≢true apart)
longest (b ∷ text) [] apart a r h x =
    let p = ap length h in
    let q = length-append (b ∷ text) [] in
    let s = length-append a r in omega (arith, p, q, s)
longest (b ∷ text) (c ∷ rest) apart a r h x = elim (cases_lt (length (b ∷ text)) (length a)) [
  | inl l ↦ absurd (goes_on b c text rest apart a r h l x)
  | inr l ↦ l
]

comment_begins : (bytes : List ℕ) → BeginsComment bytes → begins_comment bytes ≡ true
comment_begins bytes (c, more, e, inl i) = rw (e, i) refl
comment_begins bytes (c, more, e, inr i) = rw (e, i) refl

no_comment : (bytes : List ℕ) → begins_comment bytes ≡ false → BeginsComment bytes → ⊥
no_comment bytes h c = false≢true (sym h ∙ comment_begins bytes c)

piece_stands : (p : Piece) (rest : List ℕ) → may_stand p rest ≡ true → Stands p rest
piece_stands (space b) rest h = h
piece_stands (token k text) rest h =
    let p = and_parts (is_spelled k text) (is_apart text rest && not (begins_comment (text ++ rest))) h in
    let q = and_parts (is_apart text rest) (not (begins_comment (text ++ rest))) p.1 in
    (spells k text p.0, longest text rest q.0, no_comment (text ++ rest) (not-true (begins_comment (text ++ rest)) q.1))
piece_stands (line_comment text) rest h = absurd (false≢true h)
piece_stands (block_comment text) rest h = absurd (false≢true h)

pub all_stand : (ps : List Piece) → all_may_stand ps ≡ true → Stand ps []
unfolding all_may_stand Stand
all_stand [] h = tt
all_stand (p ∷ ps) h =
    let q = and_parts (may_stand p (spelled ps [])) (all_may_stand ps) h in
    (piece_stands p (spelled ps []) q.0, all_stand ps q.1)
