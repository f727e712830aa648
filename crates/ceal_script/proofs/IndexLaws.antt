-- The number of an element is what `decimal` writes.
use Rattle.std.proofs.Common.{◌≡◌, ◌⊎◌, inl, inr, ℕ, ◌<◌, ◌^◌, true, List, [], ◌∷◌, length, get_or, refl, sym, ap, ◌∙◌, subst, arith}
use Rattle.std.specs.Prelude.{bytes_eq}
use Rattle.std.specs.Fmt.{decimal, digits}
use Rattle.std.specs.Int.{IsInRange}
use Rattle.std.specs.List.{list_all}
use Rattle.std.proofs.lemmas.Bool.{and_parts, cases_Bool, cases_lt, cases_eq, false≢true}
use Rattle.std.proofs.lemmas.Bool.Decides.{nat_tests}
use Rattle.std.proofs.lemmas.Fmt.{digits_decimal, digits_value-decimal, decimal-digits_value, decimal_nonempty, first_decimal}
use Rattle.std.proofs.lemmas.Slice.Eq.{bytes_eq-Decides}
use Rattle.std.proofs.lemmas.Str.Parse.{IsDigitsTest, FoldsDigits, IsNumeralModel, numerals_by_fold}
use Rattle.ceal_base.specs.Digits.{number_with_digits, number_of, is_digit}
use Rattle.ceal_script.specs.Spelling.{AreDigits, IsIndex}

abbrev AllDigits : List ℕ → Type 0
AllDigits ds = list_all is_digit ds ≡ true

digit_range : (c : ℕ) → is_digit c ≡ true → IsInRange 48 57 c
digit_range c h = grind (arith, nat_tests)

range_digit : (c : ℕ) → IsInRange 48 57 c → is_digit c ≡ true
range_digit c h = grind (arith, nat_tests)

tells : IsDigitsTest AllDigits
tells = record {
  empty = refl;
  parts = λ c cs h. let p = and_parts (is_digit c) (list_all is_digit cs) h in (digit_range c p.0, p.1);
  more = λ c cs r h. rw (range_digit c r, h) refl;
}

folds : FoldsDigits number_with_digits
unfolding number_with_digits
folds = record {
  empty = λ n. refl;
  more = λ n c cs r. ap (λ m. number_with_digits m cs) (omega arith);
}

model : IsNumeralModel AllDigits number_of
model = numerals_by_fold AllDigits tells number_with_digits folds

all_digits : (ds : List ℕ) → AreDigits ds → AllDigits ds
all_digits [] h = absurd (false≢true h)
all_digits (d ∷ ds) h = let p = and_parts (is_digit d) (list_all is_digit ds) h in rw (p.0, p.1) refl

some_digits : (ds : List ℕ) → AreDigits ds → 0 < length ds
some_digits [] h = absurd (false≢true h)
some_digits (d ∷ ds) h = omega arith

are_some : (ds : List ℕ) → 0 < length ds → AllDigits ds → AreDigits ds
are_some [] l h = absurd (omega (arith, l))
are_some (d ∷ ds) l h = let p = and_parts (is_digit d) (list_all is_digit ds) h in rw (p.0, p.1) refl

-- digits below the limit, without a zero in front
pub index_of : (ds : List ℕ) → AreDigits ds → (get_or ds 0 0 ≡ 48 → length ds < 2) → number_of ds < 255 → IsIndex ds
index_of ds h lead small =
    let some = some_digits ds h in
    let one : get_or ds 0 0 ≡ 48 → length ds ≡ 1 = λ z. let l = lead z in omega (arith, l, some) in
    (number_of ds, small, sym (decimal-digits_value model ds (all_digits ds h) some one (omega (arith, small))))

decimal_zero : decimal 0 ≡ 48 ∷ []
unfolding digits
decimal_zero = refl

module _ (ds : List ℕ) (h : IsIndex ds) where
  pub index_digits : AreDigits ds
  index_digits =
      let small : h.0 < 2 ^ 64 = let l = h.1 in omega (arith, l) in
      subst AreDigits (sym h.2) (are_some (decimal h.0) (decimal_nonempty h.0 small) (digits_decimal model h.0 small))

  pub index_number : number_of ds ≡ h.0
  index_number =
      let small : h.0 < 2 ^ 64 = let l = h.1 in omega (arith, l) in
      ap number_of h.2 ∙ digits_value-decimal model h.0 small

  pub index_below : number_of ds < 255
  index_below = let e = index_number in let l = h.1 in omega (arith, e, l)

  pub index_front : get_or ds 0 0 ≡ 48 → length ds ≡ 1
  index_front z = elim (cases_eq h.0 0) [
    | inl e ↦ ap length (h.2 ∙ ap decimal e ∙ decimal_zero)
    | inr some ↦
        let l = h.1 in
        let f = first_decimal h.0 (omega (arith, some)) (omega (arith, l)) in
        let s = ap (λ (t : List ℕ). get_or t 0 0) h.2 in
        absurd (omega (arith, f, s, z))
  ]

pub index_or_none : (ds : List ℕ) → IsIndex ds ⊎ (IsIndex ds → ⊥)
index_or_none ds = elim (cases_lt (number_of ds) 255) [
  | inr large ↦ inr (λ h. let l = index_below ds h in omega (arith, l, large))
  | inl small ↦ elim (cases_Bool (bytes_eq ds (decimal (number_of ds)))) [
    | inl e ↦ inl (number_of ds, small, (bytes_eq-Decides ds (decimal (number_of ds))).0 e)
    | inr e ↦ inr (λ h. false≢true (sym e ∙ (bytes_eq-Decides ds (decimal (number_of ds))).1 (h.2 ∙ ap decimal (sym (index_number ds h)))))
  ]
]
