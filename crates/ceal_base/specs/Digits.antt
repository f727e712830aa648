-- Decimal digits, and the numbers that they spell.
use Rattle.std.specs.Prelude.{ℕ, ◌+◌, ◌-◌, ◌*◌, ◌&&◌, Bool, List, [], ◌∷◌, nat_le}

-- 0 to 9
abbrev pub is_digit : ℕ → Bool
is_digit b = nat_le 48 b && nat_le b 57

-- a number n with the digits after it
unfoldable pub number_with_digits : ℕ → List ℕ → ℕ
number_with_digits n [] = n
number_with_digits n (b ∷ bs) = number_with_digits (10 * n + (b - 48)) bs

-- the decimal number that digits spell
abbrev pub number_of : List ℕ → ℕ
number_of digits = number_with_digits 0 digits
