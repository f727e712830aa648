-- What a word of a line spells.
use Rattle.std.specs.Prelude.{◌≡◌, ◌≢◌, ℕ, Bool, false, not, ◌&&◌, bytes_eq, ◌^◌, ◌<◌, ◌≤◌, ℤ, pos, neg_ℤ, ◌⊎◌, Option}
use Rattle.std.specs.Prelude.{Some, None, List, [], ◌∷◌, ◌++◌, length, IsTrue, codes}
use Rattle.std.specs.Fmt.{decimal}
use Rattle.std.specs.List.{list_all}
use Rattle.ceal_base.specs.Digits.{is_digit, number_of}
use Rattle.ceal_script.specs.Characters.{is_letter, is_name_byte}
use Rattle.ceal_script.specs.declared.command.KindWord.{KindWord}
use Rattle.ceal_script.specs.declared.command.KindWord.TheVariants.{Int, Named}
use Rattle.ceal_script.specs.declared.command.PlaceWord.{PlaceWord}
use Rattle.ceal_script.specs.declared.command.ValueWord.{ValueWord}
use Rattle.ceal_script.specs.declared.command.ValueWord.TheVariants.{Num, Null, At}

abbrev pub DOT : ℕ
DOT = 46

abbrev pub MINUS : ℕ
MINUS = 45

abbrev pub OPENING_BRACKET : ℕ
OPENING_BRACKET = 91

abbrev pub CLOSING_BRACKET : ℕ
CLOSING_BRACKET = 93

-- a letter or `_`, and then letters, digits and `_`
abbrev pub is_identifier : List ℕ → Bool
is_identifier [] = false
is_identifier (b ∷ bs) = is_letter b && list_all is_name_byte bs

-- the word is an identifier
abbrev pub IsIdentifier : List ℕ → Type 0
IsIdentifier word = IsTrue (is_identifier word)

-- the name of an input, which is not `null`
abbrev pub is_name : List ℕ → Bool
is_name word = is_identifier word && not (bytes_eq word (codes "null"))

-- the word is a name
abbrev pub IsName : List ℕ → Type 0
IsName word = IsTrue (is_name word)

-- the text is the word, which is an identifier, say
abbrev pub IsTextOf : (List ℕ → Type 0) → List ℕ → List ℕ → Type 0
IsTextOf P word text = (text ≡ word) × P word

-- digits, at least one
abbrev pub are_digits : List ℕ → Bool
are_digits [] = false
are_digits (b ∷ bs) = is_digit b && list_all is_digit bs

-- the word is made only of digits
abbrev pub AreDigits : List ℕ → Type 0
AreDigits digits = IsTrue (are_digits digits)

-- the digits spell a number that is not negative
abbrev pub SpellsPositive : List ℕ → ℤ → Type 0
SpellsPositive digits n = AreDigits digits × (number_of digits < 2 ^ 63) × (n ≡ pos (number_of digits))

-- the digits after a minus spell a number
abbrev pub SpellsNegative : List ℕ → ℤ → Type 0
SpellsNegative digits n = AreDigits digits × (number_of digits ≤ 2 ^ 63) × (n ≡ neg_ℤ (pos (number_of digits)))

-- The word spells the number, which lies in the range of an `int`: digits, or a `-` and digits.
abbrev pub SpellsNumber : List ℕ → ℤ → Type 0
SpellsNumber word n = SpellsPositive word n ⊎ (digits : List ℕ) × (word ≡ MINUS ∷ digits) × SpellsNegative digits n

-- one to seven digits, of a number of reads from 1 to 1,000,000; zeros may come first
abbrev pub SpellsReads : List ℕ → ℕ → Type 0
SpellsReads digits n = AreDigits digits × (length digits ≤ 7) × (1 ≤ n) × (n ≤ 1000000) × (n ≡ number_of digits)

-- the number of an element of a row, in decimal; a row has 255 elements at most
abbrev pub IsIndex : List ℕ → Type 0
IsIndex digits = (i : ℕ) × (i < 255) × (digits ≡ decimal i)

-- an element of a row: the row's name, and the number in brackets
abbrev pub IsElement : List ℕ → Type 0
IsElement word =
    (row index : List ℕ) × (word ≡ row ++ OPENING_BRACKET ∷ (index ++ CLOSING_BRACKET ∷ [])) × IsIdentifier row
    × IsIndex index

-- the name of a field, or an element of a row
abbrev pub IsField : List ℕ → Type 0
IsField word = IsIdentifier word ⊎ IsElement word

-- NAME, or NAME.FIELD
abbrev pub place_text : List ℕ → Option (List ℕ) → List ℕ
place_text name None = name
place_text name (Some field) = name ++ DOT ∷ field

-- the field, if there is one, is spelled as one
abbrev pub HasField : Option (List ℕ) → Type 0
HasField None = Unit {0}
HasField (Some field) = IsField field

-- the word spells a place: a name, and a field after a dot if there is one
abbrev pub SpellsPlace : List ℕ → PlaceWord → Type 0
SpellsPlace word place = (word ≡ place_text place.name place.field) × IsName place.name × HasField place.field

-- a number, `null`, or a place
abbrev pub SpellsValue : List ℕ → ValueWord → Type 0
SpellsValue word (Num n) = SpellsNumber word n
SpellsValue word Null = word ≡ codes "null"
SpellsValue word (At place) = SpellsPlace word place

-- the word `int`, which is never a struct's name here, or the name of a struct
abbrev pub SpellsKind : List ℕ → KindWord → Type 0
SpellsKind word Int = word ≡ codes "int"
SpellsKind word (Named name) = IsTextOf IsIdentifier word name × (word ≢ codes "int")
