-- The value of decimal digits.
use Rattle.std.proofs.Common.{◌≡◌, ℕ, ◌+◌, ◌-◌, ◌*◌, ◌≤◌, ◌<◌, List, [], ◌∷◌, length, drop, get_or, sym, ◌∙◌, arith}
use Rattle.std.proofs.lemmas.List.{at_drop_more, at_drop_all}
use Rattle.ceal_base.specs.Digits.{number_with_digits, number_of}

-- more digits make no smaller number
continued_grows : (n : ℕ) (ds : List ℕ) → n ≤ number_with_digits n ds
unfolding number_with_digits
continued_grows n [] = omega arith
continued_grows n (d ∷ ds) = let p = continued_grows (10 * n + (d - 48)) ds in omega (arith, p)

module _ (value i : ℕ) (digits : List ℕ) (same : number_with_digits value (drop i digits) ≡ number_of digits) where
  pub value_more : i < length digits → number_with_digits (10 * value + (get_or digits i 0 - 48)) (drop (i + 1) digits) ≡ number_of digits
  unfolding number_with_digits
  value_more h = sym (at_drop_more (number_with_digits value) digits i 0 h) ∙ same

  pub value_all : length digits ≤ i → value ≡ number_of digits
  unfolding number_with_digits
  value_all h = sym (at_drop_all (number_with_digits value) digits i h) ∙ same

  pub value_large : (most : ℕ) → i < length digits → most < 10 * value + (get_or digits i 0 - 48) → most < number_of digits
  value_large most h l =
      let e = value_more h in
      let p = continued_grows (10 * value + (get_or digits i 0 - 48)) (drop (i + 1) digits) in
      omega (arith, e, p, l)
