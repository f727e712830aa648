-- What a test of a sign or of a word tells.
use Rattle.std.proofs.Common.{◌≡◌, ◌↔◌, ℕ, Bool, IsTrue, true, false, List, [], ◌∷◌, refl, sym, ap, ◌∙◌, inl, inr, ◌⊎◌, get_or, eqb-true}
use Rattle.std.proofs.lemmas.Bool.{eq-eqb}
use Rattle.std.proofs.lemmas.Bool.Decides.{eqb_tells}
use Rattle.ceal_lex.specs.declared.token.Reserved.{Reserved as ReservedWord}
use Rattle.ceal_lex.specs.declared.token.Reserved.TheVariants as Words
use Rattle.ceal_lex.specs.declared.token.Sign.{Sign as SignOf}
use Rattle.ceal_lex.specs.declared.token.Sign.TheVariants as Signs
use Rattle.ceal_lex.specs.declared.token.TokenKind.{TokenKind}
use Rattle.ceal_lex.specs.declared.token.TokenKind.TheVariants.{Name, Number, Reserved, Sign, End, Cut}
use Rattle.ceal_grammar.specs.Machine.{sign_number, word_number, same_sign, same_word, is_sign, is_word}

abbrev signs : List SignOf
signs = Signs.Arrow ∷ Signs.AndAnd ∷ Signs.BarBar ∷ Signs.EqualsEquals ∷ Signs.BangEquals ∷ Signs.LessEquals ∷ Signs.GreaterEquals ∷ Signs.Less ∷ Signs.Greater ∷ Signs.Plus
    ∷ Signs.Minus ∷ Signs.Star ∷ Signs.Slash ∷ Signs.Percent ∷ Signs.Bang ∷ Signs.Ampersand ∷ Signs.Equals ∷ Signs.LeftParenthesis ∷ Signs.RightParenthesis ∷ Signs.LeftBrace
    ∷ Signs.RightBrace ∷ Signs.Comma ∷ Signs.Semicolon ∷ Signs.LeftBracket ∷ Signs.RightBracket ∷ []

abbrev words : List ReservedWord
words = Words.Struct ∷ Words.Int ∷ Words.Mod ∷ Words.Ceal ∷ Words.Init ∷ Words.Own ∷ Words.Read ∷ Words.Write ∷ Words.Alloc ∷ Words.Modref ∷ Words.If ∷ Words.Else ∷ Words.While
    ∷ Words.Return ∷ Words.Null ∷ Words.Break ∷ Words.Continue ∷ []

sign_back : (a : SignOf) → get_or signs (sign_number a) Signs.Arrow ≡ a
sign_back Signs.Arrow = refl
sign_back Signs.AndAnd = refl
sign_back Signs.BarBar = refl
sign_back Signs.EqualsEquals = refl
sign_back Signs.BangEquals = refl
sign_back Signs.LessEquals = refl
sign_back Signs.GreaterEquals = refl
sign_back Signs.Less = refl
sign_back Signs.Greater = refl
sign_back Signs.Plus = refl
sign_back Signs.Minus = refl
sign_back Signs.Star = refl
sign_back Signs.Slash = refl
sign_back Signs.Percent = refl
sign_back Signs.Bang = refl
sign_back Signs.Ampersand = refl
sign_back Signs.Equals = refl
sign_back Signs.LeftParenthesis = refl
sign_back Signs.RightParenthesis = refl
sign_back Signs.LeftBrace = refl
sign_back Signs.RightBrace = refl
sign_back Signs.Comma = refl
sign_back Signs.Semicolon = refl
sign_back Signs.LeftBracket = refl
sign_back Signs.RightBracket = refl

word_back : (a : ReservedWord) → get_or words (word_number a) Words.Struct ≡ a
word_back Words.Struct = refl
word_back Words.Int = refl
word_back Words.Mod = refl
word_back Words.Ceal = refl
word_back Words.Init = refl
word_back Words.Own = refl
word_back Words.Read = refl
word_back Words.Write = refl
word_back Words.Alloc = refl
word_back Words.Modref = refl
word_back Words.If = refl
word_back Words.Else = refl
word_back Words.While = refl
word_back Words.Return = refl
word_back Words.Null = refl
word_back Words.Break = refl
word_back Words.Continue = refl

sign_from : (a b : SignOf) → sign_number a ≡ sign_number b → a ≡ b
sign_from a b e = sym (sign_back a) ∙ (ap (λ (n : ℕ). get_or signs n Signs.Arrow) e ∙ sign_back b)

word_from : (a b : ReservedWord) → word_number a ≡ word_number b → a ≡ b
word_from a b e = sym (word_back a) ∙ (ap (λ (n : ℕ). get_or words n Words.Struct) e ∙ word_back b)

pub sign_true : (a b : SignOf) → same_sign a b ≡ true → a ≡ b
unfolding same_sign
sign_true a b h = sign_from a b (eqb-true (sign_number a) (sign_number b) h)

pub word_true : (a b : ReservedWord) → same_word a b ≡ true → a ≡ b
unfolding same_word
word_true a b h = word_from a b (eqb-true (word_number a) (word_number b) h)

pub sign_tells : (a b : SignOf) → ((same_sign a b ≡ true) × (a ≡ b)) ⊎ (same_sign a b ≡ false)
unfolding same_sign
sign_tells a b = elim (eqb_tells (sign_number a) (sign_number b)) [ inl p ↦ inl (p.0, sign_from a b p.1) | inr p ↦ inr p.0 ]

pub word_tells : (a b : ReservedWord) → ((same_word a b ≡ true) × (a ≡ b)) ⊎ (same_word a b ≡ false)
unfolding same_word
word_tells a b = elim (eqb_tells (word_number a) (word_number b)) [ inl p ↦ inl (p.0, word_from a b p.1) | inr p ↦ inr p.0 ]

-- a test that tells whether two signs or words are the same
pub sign_decided : (a b : SignOf) (r : Bool) → (IsTrue r ↔ (a ≡ b)) → r ≡ same_sign a b
unfolding same_sign
sign_decided a b true h = sym (eq-eqb (sign_number a) (sign_number b) (ap sign_number (h.0 refl)))
sign_decided a b false h = elim (sign_tells a b) [ inl p ↦ absurd (cc (h.1 p.1)) | inr p ↦ sym p ]

pub word_decided : (a b : ReservedWord) (r : Bool) → (IsTrue r ↔ (a ≡ b)) → r ≡ same_word a b
unfolding same_word
word_decided a b true h = sym (eq-eqb (word_number a) (word_number b) (ap word_number (h.0 refl)))
word_decided a b false h = elim (word_tells a b) [ inl p ↦ absurd (cc (h.1 p.1)) | inr p ↦ sym p ]

pub sign_is : (c : SignOf) (k : TokenKind) → is_sign c k ≡ true → k ≡ Sign c
sign_is c (Sign s) h = ap Sign (sign_true s c h)
sign_is c (Name x) h = absurd (cc)
sign_is c (Number v) h = absurd (cc)
sign_is c (Reserved w) h = absurd (cc)
sign_is c End h = absurd (cc)
sign_is c Cut h = absurd (cc)

pub word_is : (c : ReservedWord) (k : TokenKind) → is_word c k ≡ true → k ≡ Reserved c
word_is c (Reserved s) h = ap Reserved (word_true s c h)
word_is c (Name x) h = absurd (cc)
word_is c (Number v) h = absurd (cc)
word_is c (Sign w) h = absurd (cc)
word_is c End h = absurd (cc)
word_is c Cut h = absurd (cc)
