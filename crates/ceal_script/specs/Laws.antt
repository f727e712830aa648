-- A law of numbers.
use Rattle.std.specs.Prelude.{◌≡◌, ℕ, List}
use Rattle.std.specs.Str.Parse.{IsNumeral, digits_value}
use Rattle.ceal_base.specs.Digits.{number_of}
use Rattle.ceal_script.specs.Spelling.{AreDigits}

-- digits are a numeral of the library's `parse`, and spell there the same number
abbrev pub DigitsLaw : Type 0
DigitsLaw = (digits : List ℕ) → AreDigits digits → IsNumeral 10 digits × (number_of digits ≡ digits_value 10 digits)
