-- Bytes read into pieces, and a test of pieces. Nothing is proved of the reading: the test says whether it was right.
use Rattle.std.proofs.Common.{ℕ, zero, suc, Bool, true, false, ◌&&◌, ◌||◌, not, Option, Some, None, List, [], ◌∷◌, ◌++◌, length, take, drop, pos}
use Rattle.std.specs.Prelude.{bytes_eq, nat_eq, nat_le, is_none, is_some, unwrap_or, if◌then◌else◌}
use Rattle.std.specs.Option.{option_map}
use Rattle.std.specs.List.{list_all, prefix_len}
use Rattle.std.specs.Ordering.{int_eq}
use Rattle.ceal_base.specs.Digits.{number_of, is_digit}
use Rattle.ceal_lex.specs.declared.token.Reserved.{Reserved}
use Rattle.ceal_lex.specs.declared.token.Reserved.TheVariants as words
use Rattle.ceal_lex.specs.declared.token.Sign.{Sign}
use Rattle.ceal_lex.specs.declared.token.Sign.TheVariants as signs
use Rattle.ceal_lex.specs.declared.token.TokenKind.{TokenKind}
use Rattle.ceal_lex.specs.declared.token.TokenKind.TheVariants as kinds
use Rattle.ceal_lex.specs.Characters.{SLASH, STAR, is_letter, is_space, is_word_byte}
use Rattle.ceal_lex.specs.Pieces.{Piece, space, line_comment, block_comment, token, spelled}
use Rattle.ceal_lex.specs.Spelling.{LARGEST, reserved_text, sign_text}

abbrev pub all_words : List Reserved
all_words =
    words.Struct ∷ words.Int ∷ words.Mod ∷ words.Ceal ∷ words.Init ∷ words.Own ∷ words.Read ∷ words.Write ∷ words.Alloc ∷ words.Modref
    ∷ words.If ∷ words.Else ∷ words.While ∷ words.Return ∷ words.Null ∷ words.Break ∷ words.Continue ∷ []

abbrev pub all_signs : List Sign
all_signs =
    signs.Arrow ∷ signs.AndAnd ∷ signs.BarBar ∷ signs.EqualsEquals ∷ signs.BangEquals ∷ signs.LessEquals ∷ signs.GreaterEquals
    ∷ signs.Less ∷ signs.Greater ∷ signs.Plus ∷ signs.Minus ∷ signs.Star ∷ signs.Slash ∷ signs.Percent ∷ signs.Bang ∷ signs.Ampersand ∷ signs.Equals
    ∷ signs.LeftParenthesis ∷ signs.RightParenthesis ∷ signs.LeftBrace ∷ signs.RightBrace ∷ signs.Comma ∷ signs.Semicolon ∷ signs.LeftBracket ∷ signs.RightBracket
    ∷ []

-- the first of them that has these bytes for its text
unfoldable pub found : {A : Type 0} → (A → List ℕ) → List A → List ℕ → Option A
found text [] bytes = None
found text (x ∷ xs) bytes = if bytes_eq bytes (text x) then Some x else found text xs bytes

abbrev pub reserved : List ℕ → Option Reserved
reserved text = found reserved_text all_words text

abbrev pub sign : List ℕ → Option Sign
sign text = found sign_text all_signs text

abbrev word : List ℕ → Piece
word text = token (unwrap_or (option_map kinds.Reserved (reserved text)) (kinds.Name text)) text

abbrev number : List ℕ → Piece
number text = token (kinds.Number (pos (number_of text))) text

-- the bytes of no sign pass no test as the end of the source
abbrev sign_or_end : List ℕ → Piece
sign_or_end text = token (unwrap_or (option_map kinds.Sign (sign text)) kinds.End) text

-- the piece that begins with the byte b, before the bytes bs
abbrev piece : ℕ → List ℕ → Piece
piece b bs =
    if is_space b then space b
    else if is_letter b then word (b ∷ take (prefix_len is_word_byte bs) bs)
    else if is_digit b then number (b ∷ take (prefix_len is_digit bs) bs)
    else if is_some (sign (b ∷ take 1 bs)) then sign_or_end (b ∷ take 1 bs)
    else sign_or_end (b ∷ [])

abbrev size : Piece → ℕ
size (token k text) = length text
size _ = 1

-- n pieces at most
unfoldable pub scanned : ℕ → List ℕ → List Piece
scanned zero bytes = []
scanned (suc n) [] = []
scanned (suc n) (b ∷ bs) = let p = piece b bs in p ∷ scanned n (drop (size p) (b ∷ bs))

abbrev pub begins_comment : List ℕ → Bool
begins_comment (b ∷ c ∷ bs) = nat_eq b SLASH && (nat_eq c SLASH || nat_eq c STAR)
begins_comment _ = false

-- the first byte of the rest does not belong to the text
abbrev pub is_apart : List ℕ → List ℕ → Bool
is_apart [] rest = false
is_apart (b ∷ bs) [] = true
is_apart (b ∷ bs) (c ∷ rest) = not (is_word_byte b && is_word_byte c) && is_none (sign (b ∷ c ∷ []))

abbrev pub is_word : List ℕ → Bool
is_word [] = false
is_word (b ∷ bs) = is_letter b && list_all is_word_byte bs

abbrev pub are_digits : List ℕ → Bool
are_digits [] = false
are_digits (b ∷ bs) = is_digit b && list_all is_digit bs

abbrev pub is_spelled : TokenKind → List ℕ → Bool
is_spelled (kinds.Name x) text = bytes_eq x text && (is_word text && is_none (reserved text))
is_spelled (kinds.Number n) text = int_eq n (pos (number_of text)) && (are_digits text && nat_le (number_of text) LARGEST)
is_spelled (kinds.Reserved w) text = bytes_eq text (reserved_text w)
is_spelled (kinds.Sign s) text = bytes_eq text (sign_text s)
is_spelled kinds.End text = false
is_spelled kinds.Cut text = false

-- there are no comments
abbrev pub may_stand : Piece → List ℕ → Bool
may_stand (space b) rest = is_space b
may_stand (token k text) rest = is_spelled k text && (is_apart text rest && not (begins_comment (text ++ rest)))
may_stand (line_comment text) rest = false
may_stand (block_comment text) rest = false

unfoldable pub all_may_stand : List Piece → Bool
all_may_stand [] = true
all_may_stand (p ∷ ps) = may_stand p (spelled ps []) && all_may_stand ps
