-- Which bytes spell which token (lexical analysis: Aho, Lam, Sethi and Ullman, *Compilers*, 2006, chapter 3).
use Rattle.std.specs.Prelude.{ℕ, ◌+◌, ◌-◌, ◌*◌, ◌≤◌, ◌≡◌, ◌≢◌, ◌⊎◌, pos, List, [], ◌∷◌, IsTrue, codes}
use Rattle.std.specs.List.{AllByRecursion}
use Rattle.ceal_base.specs.Digits.{is_digit, number_of}
use Rattle.ceal_lex.specs.declared.token.Reserved.{Reserved}
use Rattle.ceal_lex.specs.declared.token.Reserved.TheVariants as words
use Rattle.ceal_lex.specs.declared.token.Sign.{Sign}
use Rattle.ceal_lex.specs.declared.token.Sign.TheVariants as signs
use Rattle.ceal_lex.specs.declared.token.TokenKind.{TokenKind}
use Rattle.ceal_lex.specs.declared.token.TokenKind.TheVariants as kinds
use Rattle.ceal_lex.specs.Characters.{is_letter, is_word_byte}

-- how a reserved word is spelled
abbrev pub reserved_text : Reserved → List ℕ
reserved_text words.Struct = codes "struct"
reserved_text words.Int = codes "int"
reserved_text words.Mod = codes "mod"
reserved_text words.Ceal = codes "ceal"
reserved_text words.Init = codes "init"
reserved_text words.Own = codes "self"
reserved_text words.Read = codes "read"
reserved_text words.Write = codes "write"
reserved_text words.Alloc = codes "alloc"
reserved_text words.Modref = codes "modref"
reserved_text words.If = codes "if"
reserved_text words.Else = codes "else"
reserved_text words.While = codes "while"
reserved_text words.Return = codes "return"
reserved_text words.Null = codes "null"
reserved_text words.Break = codes "break"
reserved_text words.Continue = codes "continue"

-- how a sign is spelled
abbrev pub sign_text : Sign → List ℕ
sign_text signs.Arrow = codes "->"
sign_text signs.AndAnd = codes "&&"
sign_text signs.BarBar = codes "||"
sign_text signs.EqualsEquals = codes "=="
sign_text signs.BangEquals = codes "!="
sign_text signs.LessEquals = codes "<="
sign_text signs.GreaterEquals = codes ">="
sign_text signs.Less = codes "<"
sign_text signs.Greater = codes ">"
sign_text signs.Plus = codes "+"
sign_text signs.Minus = codes "-"
sign_text signs.Star = codes "*"
sign_text signs.Slash = codes "/"
sign_text signs.Percent = codes "%"
sign_text signs.Bang = codes "!"
sign_text signs.Ampersand = codes "&"
sign_text signs.Equals = codes "="
sign_text signs.LeftParenthesis = codes "("
sign_text signs.RightParenthesis = codes ")"
sign_text signs.LeftBrace = codes "{"
sign_text signs.RightBrace = codes "}"
sign_text signs.Comma = codes ","
sign_text signs.Semicolon = codes ";"
sign_text signs.LeftBracket = codes "["
sign_text signs.RightBracket = codes "]"

-- a letter, and then letters and digits
abbrev pub IsWord : List ℕ → Type 0
IsWord [] = ⊥
IsWord (b ∷ bs) = IsTrue (is_letter b) × AllByRecursion (λ c. IsTrue (is_word_byte c)) bs

-- digits, at least one
abbrev pub AreDigits : List ℕ → Type 0
AreDigits [] = ⊥
AreDigits (b ∷ bs) = IsTrue (is_digit b) × AllByRecursion (λ c. IsTrue (is_digit c)) bs

abbrev pub LARGEST : ℕ
LARGEST = 9223372036854775807

-- These bytes are what a token can be spelled by, a number too large for a token among them.
abbrev pub IsLexeme : List ℕ → Type 0
IsLexeme bytes = IsWord bytes ⊎ AreDigits bytes ⊎ (s : Sign) × (bytes ≡ sign_text s)

-- These bytes spell a token of this kind.
abbrev pub Spells : TokenKind → List ℕ → Type 0
Spells (kinds.Name text) bytes = (text ≡ bytes) × IsWord bytes × ((w : Reserved) → bytes ≢ reserved_text w)
Spells (kinds.Number n) bytes = (n ≡ pos (number_of bytes)) × AreDigits bytes × (number_of bytes ≤ LARGEST)
Spells (kinds.Reserved w) bytes = bytes ≡ reserved_text w
Spells (kinds.Sign s) bytes = bytes ≡ sign_text s
-- the two ends are at no bytes
Spells kinds.End bytes = ⊥
Spells kinds.Cut bytes = ⊥
