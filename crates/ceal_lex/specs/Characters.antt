-- Bytes by their class.
use Rattle.std.specs.Prelude.{ℕ, Bool, ◌&&◌, ◌||◌, nat_eq, nat_le}
use Rattle.ceal_base.specs.Digits.{is_digit}

abbrev pub LINE_FEED : ℕ
LINE_FEED = 10

abbrev pub CARRIAGE_RETURN : ℕ
CARRIAGE_RETURN = 13

abbrev pub PERCENT : ℕ
PERCENT = 37

abbrev pub STAR : ℕ
STAR = 42

abbrev pub SLASH : ℕ
SLASH = 47

-- space, tab, CR and LF
abbrev pub is_space : ℕ → Bool
is_space b = nat_eq b 32 || nat_eq b 9 || nat_eq b CARRIAGE_RETURN || nat_eq b LINE_FEED

-- A to Z, a to z and the underscore
abbrev pub is_letter : ℕ → Bool
is_letter b = (nat_le 65 b && nat_le b 90) || (nat_le 97 b && nat_le b 122) || nat_eq b 95

-- what a word may have after its first byte
abbrev pub is_word_byte : ℕ → Bool
is_word_byte b = is_letter b || is_digit b
