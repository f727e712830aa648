-- Bytes spell one kind of token at most.
use Rattle.std.proofs.Common.{◌≡◌, ◌≢◌, ◌⊎◌, inl, inr, ℕ, ◌<◌, true, List, [], ◌∷◌, refl, sym, ap, ◌∙◌, arith, rules, subst}
use Rattle.std.specs.Prelude.{codes, bytes_eq, if◌then◌else◌}
use Rattle.std.proofs.lemmas.Bool.{cases_Bool, false≢true}
use Rattle.std.proofs.lemmas.Bool.Decides.{nat_tests}
use Rattle.std.proofs.lemmas.Slice.Eq.{bytes_eq-Decides}
use Rattle.ceal_base.specs.Digits.{number_of, is_digit}
use Rattle.ceal_lex.specs.declared.token.Reserved.{Reserved}
use Rattle.ceal_lex.specs.declared.token.Reserved.TheVariants as words
use Rattle.ceal_lex.specs.declared.token.Sign.{Sign}
use Rattle.ceal_lex.specs.declared.token.Sign.TheVariants as signs
use Rattle.ceal_lex.specs.declared.token.TokenKind.{TokenKind}
use Rattle.ceal_lex.specs.declared.token.TokenKind.TheVariants as kinds
use Rattle.ceal_lex.specs.Characters.{is_letter, is_space}
use Rattle.ceal_lex.specs.Spelling.{reserved_text, sign_text, IsWord, AreDigits, IsLexeme, LARGEST, Spells}

pub letter_no_digit : (b : ℕ) → is_letter b ≡ true → is_digit b ≡ true → ⊥
letter_no_digit b l d = grind (arith, nat_tests)

pub space_no_letter : (b : ℕ) → is_space b ≡ true → is_letter b ≡ true → ⊥
space_no_letter b l d = grind (arith, nat_tests)

pub space_no_digit : (b : ℕ) → is_space b ≡ true → is_digit b ≡ true → ⊥
space_no_digit b l d = grind (arith, nat_tests)

pub word_no_digits : (text : List ℕ) → IsWord text → AreDigits text → ⊥
word_no_digits [] w d = w
word_no_digits (b ∷ bs) w d = letter_no_digit b w.0 d.0

pub word_no_sign : (s : Sign) → IsWord (sign_text s) → ⊥
word_no_sign signs.Arrow w = false≢true w.0
word_no_sign _ w = false≢true w.0

pub digits_no_sign : (s : Sign) → AreDigits (sign_text s) → ⊥
digits_no_sign signs.Arrow d = false≢true d.0
digits_no_sign _ d = false≢true d.0

pub reserved_word : (w : Reserved) → IsWord (reserved_text w)
reserved_word words.Struct = search rules
reserved_word _ = search rules

-- the reserved word that bytes spell, where they spell one
word_of : List ℕ → Reserved
word_of text =
    if bytes_eq text (codes "struct") then words.Struct
    else if bytes_eq text (codes "int") then words.Int
    else if bytes_eq text (codes "mod") then words.Mod
    else if bytes_eq text (codes "ceal") then words.Ceal
    else if bytes_eq text (codes "init") then words.Init
    else if bytes_eq text (codes "self") then words.Own
    else if bytes_eq text (codes "read") then words.Read
    else if bytes_eq text (codes "write") then words.Write
    else if bytes_eq text (codes "alloc") then words.Alloc
    else if bytes_eq text (codes "modref") then words.Modref
    else if bytes_eq text (codes "if") then words.If
    else if bytes_eq text (codes "else") then words.Else
    else if bytes_eq text (codes "while") then words.While
    else if bytes_eq text (codes "return") then words.Return
    else if bytes_eq text (codes "null") then words.Null
    else if bytes_eq text (codes "break") then words.Break
    else words.Continue

word_of_text : (w : Reserved) → word_of (reserved_text w) ≡ w
unfolding word_of
word_of_text words.Struct = refl
word_of_text _ = refl

pub same_word : (w v : Reserved) → reserved_text w ≡ reserved_text v → w ≡ v
same_word w v h = sym (word_of_text w) ∙ ap word_of h ∙ word_of_text v

-- the sign that bytes spell, where they spell one
sign_of : List ℕ → Sign
sign_of text =
    if bytes_eq text (codes "->") then signs.Arrow
    else if bytes_eq text (codes "&&") then signs.AndAnd
    else if bytes_eq text (codes "||") then signs.BarBar
    else if bytes_eq text (codes "==") then signs.EqualsEquals
    else if bytes_eq text (codes "!=") then signs.BangEquals
    else if bytes_eq text (codes "<=") then signs.LessEquals
    else if bytes_eq text (codes ">=") then signs.GreaterEquals
    else if bytes_eq text (codes "<") then signs.Less
    else if bytes_eq text (codes ">") then signs.Greater
    else if bytes_eq text (codes "+") then signs.Plus
    else if bytes_eq text (codes "-") then signs.Minus
    else if bytes_eq text (codes "*") then signs.Star
    else if bytes_eq text (codes "/") then signs.Slash
    else if bytes_eq text (codes "%") then signs.Percent
    else if bytes_eq text (codes "!") then signs.Bang
    else if bytes_eq text (codes "&") then signs.Ampersand
    else if bytes_eq text (codes "=") then signs.Equals
    else if bytes_eq text (codes "(") then signs.LeftParenthesis
    else if bytes_eq text (codes ")") then signs.RightParenthesis
    else if bytes_eq text (codes "{") then signs.LeftBrace
    else if bytes_eq text (codes "}") then signs.RightBrace
    else if bytes_eq text (codes ",") then signs.Comma
    else if bytes_eq text (codes ";") then signs.Semicolon
    else if bytes_eq text (codes "[") then signs.LeftBracket
    else signs.RightBracket

sign_of_text : (s : Sign) → sign_of (sign_text s) ≡ s
unfolding sign_of
sign_of_text signs.Arrow = refl
sign_of_text _ = refl

pub same_sign : (s t : Sign) → sign_text s ≡ sign_text t → s ≡ t
same_sign s t h = sym (sign_of_text s) ∙ ap sign_of h ∙ sign_of_text t

-- bytes are a reserved word or none, and a sign or none
pub word_or_none : (text : List ℕ) → ((w : Reserved) × (text ≡ reserved_text w)) ⊎ ((w : Reserved) → text ≢ reserved_text w)
word_or_none text = elim (cases_Bool (bytes_eq text (reserved_text (word_of text)))) [
  | inl e ↦ inl (word_of text, (bytes_eq-Decides text (reserved_text (word_of text))).0 e)
  | inr e ↦ inr (λ w h.
      let same : text ≡ reserved_text (word_of text) = h ∙ ap reserved_text (sym (ap word_of h ∙ word_of_text w)) in
      false≢true (sym e ∙ (bytes_eq-Decides text (reserved_text (word_of text))).1 same))
]

pub sign_or_none : (text : List ℕ) → ((s : Sign) × (sign_text s ≡ text)) ⊎ ((s : Sign) → sign_text s ≢ text)
sign_or_none text = elim (cases_Bool (bytes_eq (sign_text (sign_of text)) text)) [
  | inl e ↦ inl (sign_of text, (bytes_eq-Decides (sign_text (sign_of text)) text).0 e)
  | inr e ↦ inr (λ s h.
      let same : sign_text (sign_of text) ≡ text = ap sign_text (sym (ap sign_of h) ∙ sign_of_text s) ∙ h in
      false≢true (sym e ∙ (bytes_eq-Decides (sign_text (sign_of text)) text).1 same))
]

module _ (text : List ℕ) where
  word_unlike_sign : (s : Sign) → IsWord text → text ≡ sign_text s → ⊥
  word_unlike_sign s w e = word_no_sign s (subst IsWord e w)

  digits_unlike_sign : (s : Sign) → AreDigits text → text ≡ sign_text s → ⊥
  digits_unlike_sign s d e = digits_no_sign s (subst AreDigits e d)

  digits_unlike_word : (w : Reserved) → AreDigits text → text ≡ reserved_text w → ⊥
  digits_unlike_word w d e = word_no_digits text (subst IsWord (sym e) (reserved_word w)) d

  word_unlike_word : (w : Reserved) (s : Sign) → text ≡ reserved_text w → text ≡ sign_text s → ⊥
  word_unlike_word w s e f = word_unlike_sign s (subst IsWord (sym e) (reserved_word w)) f

  -- one kind at most
  pub same_kind : (k j : TokenKind) → Spells k text → Spells j text → k ≡ j
  same_kind (kinds.Name x) (kinds.Name y) a b = ap (λ (t : List ℕ). kinds.Name t) (a.0 ∙ sym b.0)
  same_kind (kinds.Name x) (kinds.Number n) a b = absurd (word_no_digits text a.1 b.1)
  same_kind (kinds.Name x) (kinds.Reserved w) a b = absurd (a.2 w b)
  same_kind (kinds.Name x) (kinds.Sign s) a b = absurd (word_unlike_sign s a.1 b)
  same_kind (kinds.Number n) (kinds.Name y) a b = absurd (word_no_digits text b.1 a.1)
  same_kind (kinds.Number n) (kinds.Number m) a b = ap kinds.Number (a.0 ∙ sym b.0)
  same_kind (kinds.Number n) (kinds.Reserved w) a b = absurd (digits_unlike_word w a.1 b)
  same_kind (kinds.Number n) (kinds.Sign s) a b = absurd (digits_unlike_sign s a.1 b)
  same_kind (kinds.Reserved w) (kinds.Name y) a b = absurd (b.2 w a)
  same_kind (kinds.Reserved w) (kinds.Number m) a b = absurd (digits_unlike_word w b.1 a)
  same_kind (kinds.Reserved w) (kinds.Reserved v) a b = ap kinds.Reserved (same_word w v (sym a ∙ b))
  same_kind (kinds.Reserved w) (kinds.Sign s) a b = absurd (word_unlike_word w s a b)
  same_kind (kinds.Sign s) (kinds.Name y) a b = absurd (word_unlike_sign s b.1 a)
  same_kind (kinds.Sign s) (kinds.Number m) a b = absurd (digits_unlike_sign s b.1 a)
  same_kind (kinds.Sign s) (kinds.Reserved w) a b = absurd (word_unlike_word w s b a)
  same_kind (kinds.Sign s) (kinds.Sign t) a b = ap kinds.Sign (same_sign s t (sym a ∙ b))
  same_kind kinds.End _ a b = absurd a
  same_kind kinds.Cut _ a b = absurd a
  same_kind _ kinds.End a b = absurd b
  same_kind _ kinds.Cut a b = absurd b

  -- a token's bytes are a lexeme
  pub lexeme_of : (k : TokenKind) → Spells k text → IsLexeme text
  lexeme_of (kinds.Name x) h = inl h.1
  lexeme_of (kinds.Number n) h = inr (inl h.1)
  lexeme_of (kinds.Reserved w) h = inl (subst IsWord (sym h) (reserved_word w))
  lexeme_of (kinds.Sign s) h = inr (inr (s, h))
  lexeme_of kinds.End h = absurd h
  lexeme_of kinds.Cut h = absurd h

  -- no token is a number that is too large
  pub not_too_large : (k : TokenKind) → Spells k text → AreDigits text → LARGEST < number_of text → ⊥
  not_too_large (kinds.Name x) h d l = word_no_digits text h.1 d
  not_too_large (kinds.Number n) h d l = omega (arith, h.2)
  not_too_large (kinds.Reserved w) h d l = digits_unlike_word w d h
  not_too_large (kinds.Sign s) h d l = digits_unlike_sign s d h
  not_too_large kinds.End h d l = h
  not_too_large kinds.Cut h d l = h

sign_not_empty : (s : Sign) → [] ≡ sign_text s → ⊥
sign_not_empty signs.Arrow h = absurd (cc)
sign_not_empty _ h = absurd (cc)

pub lexeme_not_empty : IsLexeme [] → ⊥
lexeme_not_empty (inl w) = w
lexeme_not_empty (inr (inl d)) = d
lexeme_not_empty (inr (inr (s, e))) = sign_not_empty s e

space_no_sign : (b : ℕ) (bs : List ℕ) (s : Sign) → is_space b ≡ true → b ∷ bs ≡ sign_text s → ⊥
space_no_sign b bs signs.Arrow h e = grind (arith, nat_tests)
space_no_sign b bs _ h e = grind (arith, nat_tests)

-- no token begins with white space
pub space_no_lexeme : (b : ℕ) (bs : List ℕ) → is_space b ≡ true → IsLexeme (b ∷ bs) → ⊥
space_no_lexeme b bs h (inl w) = space_no_letter b h w.0
space_no_lexeme b bs h (inr (inl d)) = space_no_digit b h d.0
space_no_lexeme b bs h (inr (inr (s, e))) = space_no_sign b bs s h e
