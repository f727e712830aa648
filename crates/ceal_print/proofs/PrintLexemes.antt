-- The texts of tokens: where none continues into the white space after it.
use Rattle.std.proofs.Common.{◌≡◌, ◌≢◌, ◌⊎◌, ℕ, zero, suc, ℤ, pos, ◌+◌, ◌-◌, ◌*◌, ◌≤◌, ◌<◌, ◌^◌, true, false, List, [], ◌∷◌, ◌++◌, length, get_or, refl, ap, sym, ◌∙◌, subst, arith, rules, inl, inr}
use Rattle.std.specs.Prelude.{IsTrue}
use Rattle.std.specs.Int.{IsInRange}
use Rattle.std.specs.Fmt.{decimal, signed_decimal}
use Rattle.std.specs.List.{AllByRecursion}
use Rattle.std.proofs.lemmas.Bool.{false≢true, cases_lt}
use Rattle.std.proofs.lemmas.Bool.Decides.{nat_tests}
use Rattle.std.proofs.lemmas.Fmt.{digits_decimal, digits_value-decimal, decimal_nonempty, length-decimal-le}
use Rattle.std.proofs.lemmas.List.{get_or_append_left}
use Rattle.std.proofs.lemmas.Str.Parse.{IsDigitsTest, FoldsDigits, IsNumeralModel, numerals_by_fold}
use Rattle.std.proofs.Math.Seq.{get_or-append_seam, get_or-append_right}
use Rattle.ceal_base.specs.Digits.{number_with_digits, number_of, is_digit}
use Rattle.ceal_lex.specs.declared.token.Reserved.{Reserved}
use Rattle.ceal_lex.specs.declared.token.Reserved.TheVariants as words
use Rattle.ceal_lex.specs.declared.token.Sign.{Sign}
use Rattle.ceal_lex.specs.declared.token.Sign.TheVariants as signs
use Rattle.ceal_lex.specs.declared.token.TokenKind.{TokenKind}
use Rattle.ceal_lex.specs.declared.token.TokenKind.TheVariants as kinds
use Rattle.ceal_lex.specs.Characters.{PERCENT, SLASH, STAR, is_letter, is_space, is_word_byte}
use Rattle.ceal_lex.specs.Pieces.{BeginsComment, IsLongest, Stands, token}
use Rattle.ceal_lex.specs.Spelling.{reserved_text, sign_text, IsWord, AreDigits, IsLexeme, LARGEST, Spells}
use Rattle.ceal_print.specs.PrintWords.{kind_text, gap}

-- Numbers: what `decimal` writes are digits of the number.
abbrev AllDigits : List ℕ → Type 0
AllDigits ds = AllByRecursion (λ c. IsTrue (is_digit c)) ds

digit_range : (c : ℕ) → is_digit c ≡ true → IsInRange 48 57 c
digit_range c h = grind (arith, nat_tests)

range_digit : (c : ℕ) → IsInRange 48 57 c → is_digit c ≡ true
range_digit c h = grind (arith, nat_tests)

tells : IsDigitsTest AllDigits
tells = record {
  empty = tt;
  parts = λ c cs h. (digit_range c h.0, h.1);
  more = λ c cs r h. (range_digit c r, h);
}

folds : FoldsDigits number_with_digits
unfolding number_with_digits
folds = record {
  empty = λ n. refl;
  more = λ n c cs r. ap (λ m. number_with_digits m cs) (omega arith);
}

model : IsNumeralModel AllDigits number_of
model = numerals_by_fold AllDigits tells number_with_digits folds

some_digits : (ds : List ℕ) → 0 < length ds → AllDigits ds → AreDigits ds
some_digits [] l h = absurd (omega (arith, l))
some_digits (d ∷ ds) l h = h

pub decimal_spells : (n : ℕ) → n ≤ LARGEST → Spells (kinds.Number (pos n)) (decimal n)
decimal_spells n h =
    let small : n < 2 ^ 64 = omega (arith, h) in
    let value : number_of (decimal n) ≡ n = digits_value-decimal model n small in (
      ap pos (sym value),
      some_digits (decimal n) (decimal_nonempty n small) (digits_decimal model n small),
      omega (arith, value, h),
    )

-- What spells a token can be written by its own text.
pub own_text : (k : TokenKind) (text : List ℕ) → Spells k text → Spells k (kind_text k)
own_text (kinds.Name x) text h = (refl, subst IsWord (sym h.0) h.1, λ w e. h.2 w (sym h.0 ∙ e))
own_text (kinds.Number n) text h =
    subst (λ (z : ℤ). Spells (kinds.Number z) (signed_decimal z)) (sym h.0) (decimal_spells (number_of text) h.2)
own_text (kinds.Reserved w) text h = refl
own_text (kinds.Sign s) text h = refl
own_text kinds.End text h = absurd h
own_text kinds.Cut text h = absurd h

-- How long it is, with what follows it.
word_some : (text : List ℕ) → IsWord text → 1 ≤ length text
word_some [] h = absurd h
word_some (b ∷ bs) h = omega arith

digits_some : (text : List ℕ) → AreDigits text → 1 ≤ length text
digits_some [] h = absurd h
digits_some (b ∷ bs) h = omega arith

reserved_some : (w : Reserved) → 1 ≤ length (reserved_text w)
reserved_some words.Struct = omega arith
reserved_some _ = omega arith

sign_some : (s : Sign) → 1 ≤ length (sign_text s)
sign_some signs.Arrow = omega arith
sign_some _ = omega arith

long_number : (n : ℕ) (z : ℤ) → z ≡ pos n → n ≤ LARGEST → length (signed_decimal z) ≤ 20
long_number n z e h =
    let b = length-decimal-le 20 n (omega arith) (omega (arith, h)) (omega (arith, h)) in
    subst (λ (y : ℤ). length (signed_decimal y) ≤ 20) (sym e) b

pub short_text : (k : TokenKind) (text : List ℕ) → Spells k text → length (kind_text k) + length (gap k) ≤ 21 * length text
short_text (kinds.Name x) text h =
    let a = ap length h.0 in
    let b = word_some text h.1 in omega (arith, a, b)
short_text (kinds.Number n) text h =
    let a = long_number (number_of text) n h.0 h.2 in
    let b = digits_some text h.1 in omega (arith, a, b)
short_text (kinds.Reserved w) text h =
    let a = ap length h in
    let b = reserved_some w in omega (arith, a, b)
short_text (kinds.Sign s) text h =
    let a = ap length h in
    let b = sign_some s in omega (arith, a, b)
short_text kinds.End text h = absurd h
short_text kinds.Cut text h = absurd h

-- The text of a token is a lexeme.
reserved_word : (w : Reserved) → IsWord (reserved_text w)
reserved_word words.Struct = search rules
reserved_word _ = search rules

pub is_lexeme : (k : TokenKind) (text : List ℕ) → Spells k text → IsLexeme text
is_lexeme (kinds.Name x) text h = inl h.1
is_lexeme (kinds.Number n) text h = inr (inl h.1)
is_lexeme (kinds.Reserved w) text h = inl (subst IsWord (sym h) (reserved_word w))
is_lexeme (kinds.Sign s) text h = inr (inr (s, h))
is_lexeme kinds.End text h = absurd h
is_lexeme kinds.Cut text h = absurd h

-- Bytes of lexemes, by their place.
module _ (P : ℕ → Type 0) where
  at_place : (bytes : List ℕ) (i : ℕ) → AllByRecursion P bytes → i < length bytes → P (get_or bytes i 0)
  at_place [] i h l = absurd (omega (arith, l))
  at_place (b ∷ bytes) zero h l = h.0
  at_place (b ∷ bytes) (suc i) h l = at_place bytes i h.1 (omega (arith, l))

  module _ (letters : (c : ℕ) → is_word_byte c ≡ true → P c) where
    words_pass : (bytes : List ℕ) → AllByRecursion (λ c. IsTrue (is_word_byte c)) bytes → AllByRecursion P bytes
    words_pass [] h = tt
    words_pass (b ∷ bytes) h = (letters b h.0, words_pass bytes h.1)

    digit_word : (c : ℕ) → is_digit c ≡ true → is_word_byte c ≡ true
    digit_word c h = grind (arith, nat_tests)

    letter_word : (c : ℕ) → is_letter c ≡ true → is_word_byte c ≡ true
    letter_word c h = grind (arith, nat_tests)

    digits_pass : (bytes : List ℕ) → AllDigits bytes → AllByRecursion P bytes
    digits_pass [] h = tt
    digits_pass (b ∷ bytes) h = (letters b (digit_word b h.0), digits_pass bytes h.1)

    word_passes : (bytes : List ℕ) → IsWord bytes → AllByRecursion P bytes
    word_passes [] h = absurd h
    word_passes (b ∷ bytes) h = (letters b (letter_word b h.0), words_pass bytes h.1)

    number_passes : (bytes : List ℕ) → AreDigits bytes → AllByRecursion P bytes
    number_passes [] h = absurd h
    number_passes (b ∷ bytes) h = digits_pass (b ∷ bytes) h

-- No lexeme has white space in it.
abbrev IsGraphic : ℕ → Type 0
IsGraphic c = is_space c ≡ false

graphic_word : (c : ℕ) → is_word_byte c ≡ true → IsGraphic c
graphic_word c h = grind (arith, nat_tests)

graphic_sign : (s : Sign) → AllByRecursion IsGraphic (sign_text s)
graphic_sign signs.Arrow = search rules
graphic_sign _ = search rules

pub graphic : (text : List ℕ) → IsLexeme text → AllByRecursion IsGraphic text
graphic text (inl h) = word_passes IsGraphic graphic_word text h
graphic text (inr (inl h)) = number_passes IsGraphic graphic_word text h
graphic text (inr (inr (s, e))) = subst (AllByRecursion IsGraphic) (sym e) (graphic_sign s)

-- A lexeme with a `%` is the sign.
abbrev IsOther : ℕ → Type 0
IsOther c = c ≢ PERCENT

other_word : (c : ℕ) → is_word_byte c ≡ true → IsOther c
other_word c h = grind (arith, nat_tests)

other_sign : (s : Sign) → (length (sign_text s) ≡ 1) ⊎ AllByRecursion IsOther (sign_text s)
other_sign signs.Arrow = inr (λ h. omega (arith, h), (λ h. omega (arith, h), tt))
other_sign signs.AndAnd = inr (λ h. omega (arith, h), (λ h. omega (arith, h), tt))
other_sign signs.BarBar = inr (λ h. omega (arith, h), (λ h. omega (arith, h), tt))
other_sign signs.EqualsEquals = inr (λ h. omega (arith, h), (λ h. omega (arith, h), tt))
other_sign signs.BangEquals = inr (λ h. omega (arith, h), (λ h. omega (arith, h), tt))
other_sign signs.LessEquals = inr (λ h. omega (arith, h), (λ h. omega (arith, h), tt))
other_sign signs.GreaterEquals = inr (λ h. omega (arith, h), (λ h. omega (arith, h), tt))
other_sign _ = inl refl

pub percent_alone : (text : List ℕ) → IsLexeme text → (length text ≡ 1) ⊎ AllByRecursion IsOther text
percent_alone text (inl h) = inr (word_passes IsOther other_word text h)
percent_alone text (inr (inl h)) = inr (number_passes IsOther other_word text h)
percent_alone text (inr (inr (s, e))) = subst (λ (x : List ℕ). (length x ≡ 1) ⊎ AllByRecursion IsOther x) (sym e) (other_sign s)

-- A lexeme that begins with `/` is the sign.
slash_other : (s : Sign) → (length (sign_text s) ≡ 1) ⊎ (get_or (sign_text s) 0 0 ≢ SLASH)
slash_other signs.Arrow = inr (λ h. omega (arith, h))
slash_other signs.AndAnd = inr (λ h. omega (arith, h))
slash_other signs.BarBar = inr (λ h. omega (arith, h))
slash_other signs.EqualsEquals = inr (λ h. omega (arith, h))
slash_other signs.BangEquals = inr (λ h. omega (arith, h))
slash_other signs.LessEquals = inr (λ h. omega (arith, h))
slash_other signs.GreaterEquals = inr (λ h. omega (arith, h))
slash_other _ = inl refl

slash_sign : (b : ℕ) (bytes : List ℕ) (s : Sign) → SLASH ∷ b ∷ bytes ≡ sign_text s → ⊥
slash_sign b bytes s e = elim (slash_other s) [
  | inl one ↦ let l = ap length e in absurd (omega (arith, l, one))
  | inr other ↦ other (sym (ap (λ (x : List ℕ). get_or x 0 0) e))
]

pub slash_alone : (b : ℕ) (bytes : List ℕ) → IsLexeme (SLASH ∷ b ∷ bytes) → ⊥
slash_alone b bytes (inl h) = false≢true h.0
slash_alone b bytes (inr (inl h)) = false≢true h.0
slash_alone b bytes (inr (inr (s, e))) = slash_sign b bytes s e

-- A token may be before white space.
module _ (b : ℕ) (more : List ℕ) (blank : is_space b ≡ true) where
  longest : (text : List ℕ) → IsLongest text (b ∷ more)
  longest text x y e lexeme = elim (cases_lt (length text) (length x)) [
    | inl l ↦
        let here : get_or x (length text) 0 ≡ b =
        sym (get_or_append_left x y 0 (length text) l) ∙ ap (λ (z : List ℕ). get_or z (length text) 0) (sym e) ∙ get_or-append_seam text b more 0 in
        absurd (false≢true (sym (at_place IsGraphic x (length text) (graphic x lexeme) l) ∙ ap is_space here ∙ blank))
    | inr l ↦ l
  ]

  blank_goes_on : (c : ℕ) → (c ≡ SLASH) ⊎ (c ≡ STAR) → b ≡ c → ⊥
  blank_goes_on c (inl e) h = false≢true (ap is_space (sym e ∙ sym h) ∙ blank)
  blank_goes_on c (inr e) h = false≢true (ap is_space (sym e ∙ sym h) ∙ blank)

  no_comment : (text : List ℕ) → IsLexeme text → BeginsComment (text ++ b ∷ more) → ⊥
  no_comment [] lexeme (c, rest, e, is) = false≢true (ap is_space (let h : SLASH ≡ b = cc in h) ∙ blank)
  no_comment (x ∷ []) lexeme (c, rest, e, is) = blank_goes_on c is (let h : b ≡ c = cc in h)
  no_comment (x ∷ y ∷ text) lexeme (c, rest, e, is) = slash_alone y text (subst (λ (z : ℕ). IsLexeme (z ∷ y ∷ text)) (let h : x ≡ SLASH = cc in h) lexeme)

  pub stands : (k : TokenKind) (text : List ℕ) → Spells k text → Stands (token k text) (b ∷ more)
  stands k text h = (h, longest text, no_comment text (is_lexeme k text h))

-- No `%%` begins in a token and what follows it.
abbrev pub IsClear : ℕ → List ℕ → Type 0
IsClear n bytes = (i : ℕ) → i < n → get_or bytes i 0 ≡ PERCENT → get_or bytes (i + 1) 0 ≡ PERCENT → ⊥

module _ (text : List ℕ) (lexeme : IsLexeme text) (b : ℕ) (blank : is_space b ≡ true) (rest : List ℕ) where
  no_percent : b ≡ PERCENT → ⊥
  no_percent h = false≢true (ap is_space (sym h) ∙ blank)

  clear_inside : (i : ℕ) → i < length text → get_or (text ++ b ∷ rest) i 0 ≡ PERCENT → get_or (text ++ b ∷ rest) (i + 1) 0 ≡ PERCENT → ⊥
  clear_inside i l p q = elim (percent_alone text lexeme) [
    | inl one ↦
        let e : i + 1 ≡ length text = omega (arith, one, l) in
        no_percent (sym (get_or-append_seam text b rest 0) ∙ ap (λ (k : ℕ). get_or (text ++ b ∷ rest) k 0) (sym e) ∙ q)
    | inr none ↦ at_place IsOther text i none l (sym (get_or_append_left text (b ∷ rest) 0 i l) ∙ p)
  ]

  clear_behind : (n i : ℕ) → IsClear n rest → length text < i → i < length text + 1 + n
      → get_or (text ++ b ∷ rest) i 0 ≡ PERCENT → get_or (text ++ b ∷ rest) (i + 1) 0 ≡ PERCENT → ⊥
  clear_behind n i c l m p q =
      let j : ℕ = i - length text - 1 in
      let here : i - length text ≡ suc j = omega (arith, l) in
      let next : i + 1 - length text ≡ suc (j + 1) = omega (arith, l) in
      c j (omega (arith, l, m))
      (ap (λ (k : ℕ). get_or (b ∷ rest) k 0) (sym here) ∙ sym (get_or-append_right text (b ∷ rest) i 0 (omega (arith, l))) ∙ p)
      (ap (λ (k : ℕ). get_or (b ∷ rest) k 0) (sym next) ∙ sym (get_or-append_right text (b ∷ rest) (i + 1) 0 (omega (arith, l))) ∙ q)

  pub clear_front : (n : ℕ) → IsClear n rest → IsClear (length text + 1 + n) (text ++ b ∷ rest)
  clear_front n c i m p q = elim (cases_lt i (length text)) [
    | inl l ↦ clear_inside i l p q
    | inr l ↦ elim (cases_lt (length text) i) [
      | inl more ↦ clear_behind n i c more m p q
      | inr less ↦
          let e : i ≡ length text = omega (arith, l, less) in
          no_percent (sym (get_or-append_seam text b rest 0) ∙ ap (λ (k : ℕ). get_or (text ++ b ∷ rest) k 0) (sym e) ∙ p)
    ]
  ]
