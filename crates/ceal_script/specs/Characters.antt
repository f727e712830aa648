-- Bytes by their class.
use Rattle.std.specs.Prelude.{ℕ, Bool, ◌&&◌, ◌||◌, nat_eq, nat_le}
use Rattle.ceal_base.specs.Digits.{is_digit}

-- a space or a tab, which separate the words of a line
abbrev pub is_gap : ℕ → Bool
is_gap b = nat_eq b 32 || nat_eq b 9

-- A to Z, a to z and the underscore
abbrev pub is_letter : ℕ → Bool
is_letter b = (nat_le 65 b && nat_le b 90) || (nat_le 97 b && nat_le b 122) || nat_eq b 95

-- what a name may have after its first byte
abbrev pub is_name_byte : ℕ → Bool
is_name_byte b = is_letter b || is_digit b
