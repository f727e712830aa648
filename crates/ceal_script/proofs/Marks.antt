-- A sign that no name has, as a dot or a bracket: a name ends at its first occurrence.
use Rattle.std.proofs.Common.{◌≡◌, ℕ, ◌+◌, ◌<◌, true, false, not, List, [], ◌∷◌, ◌++◌, length, take, drop, get_or, add-one, drop-cons, Some, None, suc, refl, sym, ap, ◌∙◌, arith, length-append}
use Rattle.std.specs.Prelude.{◌==◌, nat_lt, position}
use Rattle.std.specs.List.{list_all, position_or_len}
use Rattle.std.proofs.lemmas.Bool.{and_parts}
use Rattle.std.proofs.lemmas.Bool.Decides.{nat_tests}
use Rattle.std.proofs.lemmas.List.{take-append-drop}
use Rattle.std.proofs.Math.Seq.{take-append_seam}
use Rattle.std.proofs.lemmas.List.Quantifiers.{position-Some}
use Rattle.ceal_script.specs.Characters.{is_name_byte}

mark_is : (b mark : ℕ) → (b == mark) ≡ true → b ≡ mark
mark_is b mark h = grind (arith, nat_tests)

module _ (mark : ℕ) where
  pub behind_mark : (name rest : List ℕ) → drop (length name + 1) (name ++ mark ∷ rest) ≡ rest
  behind_mark name rest = rw add-one (drop_one name rest)
    where
      drop_one : (name rest : List ℕ) → drop (suc (length name)) (name ++ mark ∷ rest) ≡ rest
      drop_one [] rest = refl
      drop_one (b ∷ name) rest = drop_one name rest

  pub before_mark : (name rest : List ℕ) → take (length name) (name ++ mark ∷ rest) ≡ name
  before_mark name rest = take-append_seam name (mark ∷ rest)

  pub around_mark : (word : List ℕ) (at : ℕ) → Some at ≡ position (λ b. b == mark) word → word ≡ take at word ++ mark ∷ drop (at + 1) word
  around_mark word at e =
      let p = position-Some (λ b. b == mark) word at 0 (sym e) in
      let d : get_or word at 0 ≡ mark = mark_is (get_or word at 0) mark p.1 in
      sym (take-append-drop at word) ∙ ap (λ (l : List ℕ). take at word ++ l) (drop-cons word at 0 p.0 ∙ rw (d, add-one) refl)

  module _ (other : (b : ℕ) → is_name_byte b ≡ true → not (b == mark) ≡ true) where
    name_run : (name rest : List ℕ) → list_all is_name_byte name ≡ true → position_or_len (λ b. b == mark) (name ++ mark ∷ rest) ≡ length name
    name_run [] rest h = rw (same mark) refl
      where
        same : (n : ℕ) → not (n == n) ≡ false
        same n = grind (arith, nat_tests)
    name_run (b ∷ name) rest h =
        let p = and_parts (is_name_byte b) (list_all is_name_byte name) h in
        let q = name_run name rest p.1 in
        rw (other b p.0) (omega (arith, q))

    pub mark_behind : (name rest : List ℕ) → list_all is_name_byte name ≡ true → position (λ b. b == mark) (name ++ mark ∷ rest) ≡ Some (length name)
    mark_behind name rest h =
        let e = name_run name rest h in
        let l = length-append name (mark ∷ rest) in
        rw e (rw (within (length name) (length (name ++ mark ∷ rest)) (omega (arith, l))) refl)
      where
        within : (m n : ℕ) → m < n → nat_lt m n ≡ true
        within m n h = grind (arith, nat_tests)

    pub no_mark : (name : List ℕ) → list_all is_name_byte name ≡ true → position (λ b. b == mark) name ≡ None
    no_mark name h =
        let e = none_run name h in
        rw e (rw (not_within (length name)) refl)
      where
        none_run : (name : List ℕ) → list_all is_name_byte name ≡ true → position_or_len (λ b. b == mark) name ≡ length name
        none_run [] h = refl
        none_run (b ∷ name) h =
            let p = and_parts (is_name_byte b) (list_all is_name_byte name) h in
            let q = none_run name p.1 in
            rw (other b p.0) (omega (arith, q))

        not_within : (n : ℕ) → nat_lt n n ≡ false
        not_within n = grind (arith, nat_tests)
