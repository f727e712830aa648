-- Digits, and what the library's `parse` reads in them.
use Rattle.std.proofs.Common.{◌≡◌, ℕ, ◌+◌, ◌-◌, ◌*◌, ◌≤◌, arith, ◌&&◌, Bool, true, false, List, [], ◌∷◌, refl, ap, ◌∙◌}
use Rattle.std.specs.Prelude.{nat_le}
use Rattle.std.specs.Char.{digit_value}
use Rattle.std.specs.List.{list_all}
use Rattle.std.specs.Str.Parse.{AllDigits, IsNumeral, digits_value, digits_value_after}
use Rattle.std.proofs.lemmas.Bool.{false≢true, leb-true}
use Rattle.std.proofs.lemmas.Str.{digit_value_digit}
use Rattle.ceal_base.specs.Digits.{is_digit, number_with_digits, number_of}
use Rattle.ceal_script.specs.Spelling.{AreDigits}

-- both hold where both are true
both : (a b : Bool) → (a && b) ≡ true → (a ≡ true) × (b ≡ true)
both true b h = (refl, h)
both false b h = absurd (false≢true h)

-- a digit has the same value for `parse`
digit-alike : (c : ℕ) → is_digit c ≡ true → digit_value c + 48 ≡ c
digit-alike c h = let bounds = both (nat_le 48 c) (nat_le c 57) h in digit_value_digit c (leb-true 48 c bounds.0, leb-true c 57 bounds.1)

all-digits : (digits : List ℕ) → list_all is_digit digits ≡ true → AllDigits 10 digits
all-digits [] h = tt
all-digits (c ∷ cs) h =
    let parts = both (is_digit c) (list_all is_digit cs) h in
    let value = digit-alike c parts.0 in
    let bounds = both (nat_le 48 c) (nat_le c 57) parts.0 in
    let most : c ≤ 57 = leb-true c 57 bounds.1 in
    (omega (arith, value, most), all-digits cs parts.1)

continued-alike : (n : ℕ) (digits : List ℕ) → list_all is_digit digits ≡ true → number_with_digits n digits ≡ digits_value_after 10 n digits
unfolding number_with_digits
continued-alike n [] h = refl
continued-alike n (c ∷ cs) h =
    let parts = both (is_digit c) (list_all is_digit cs) h in
    let value = digit-alike c parts.0 in
    let same : 10 * n + (c - 48) ≡ n * 10 + digit_value c = omega (arith, value) in
    ap (λ (k : ℕ). number_with_digits k cs) same ∙ continued-alike (n * 10 + digit_value c) cs parts.1

pub digits-alike : (digits : List ℕ) → AreDigits digits → IsNumeral 10 digits × (number_of digits ≡ digits_value 10 digits)
digits-alike [] h = absurd (false≢true h)
digits-alike (c ∷ cs) h = ((omega arith, all-digits (c ∷ cs) h), continued-alike 0 (c ∷ cs) h)
