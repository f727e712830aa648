-- A word that the parser takes for an option, from its name and its value.
use Rattle.std.proofs.Common.{◌≡◌, ◌∙◌, ◌||◌, ℕ, Bool, cond, true, false, refl, sym, ap, ap₂, List, [], ◌∷◌, ◌++◌, Option, Some, None, unwrap_or, true≢false, eqb, take, drop, suc, ◌+◌, arith}
use Rattle.std.specs.Prelude.{option_and_then}
use Rattle.std.specs.List.{after_first, before_first}
use Rattle.std.proofs.lemmas.Bool.{eqb-true}
use Rattle.clap.specs.Lexer.{has_byte, long_of, long_of_rest, name_and_value, strip_byte}

take_more : (n x : ℕ) (xs : List ℕ) → take (1 + n) (x ∷ xs) ≡ x ∷ take n xs
take_more n x xs =
    let e : 1 + n ≡ suc n = omega arith in
    ap (λ (k : ℕ). take k (x ∷ xs)) e

drop_more : (n x : ℕ) (xs : List ℕ) → drop (1 + n + 1) (x ∷ xs) ≡ drop (n + 1) xs
drop_more n x xs =
    let e : 1 + n + 1 ≡ suc (n + 1) = omega arith in
    ap (λ (k : ℕ). drop k (x ∷ xs)) e

-- the text before the first `=`, that, and the text after it
with_sign : (xs : List ℕ) → has_byte 61 xs ≡ true → xs ≡ before_first (λ x. eqb x 61) xs ++ 61 ∷ after_first (λ x. eqb x 61) xs
with_sign [] h = absurd (true≢false (sym h))
with_sign (x ∷ xs) h = go (eqb x 61) refl (λ e. with_sign xs e) h
  where
    go : (b : Bool) → eqb x 61 ≡ b → (has_byte 61 xs ≡ true → xs ≡ before_first (λ x. eqb x 61) xs ++ 61 ∷ after_first (λ x. eqb x 61) xs)
        → (b || has_byte 61 xs) ≡ true → x ∷ xs ≡ before_first (λ x. eqb x 61) (x ∷ xs) ++ 61 ∷ after_first (λ x. eqb x 61) (x ∷ xs)
    go true e next h = rw e (ap (λ (y : ℕ). y ∷ xs) (eqb-true x 61 e))
    go false e next h = rw e (ap (λ (ys : List ℕ). x ∷ ys) (next h) ∙ ap₂ (λ (a b : List ℕ). a ++ 61 ∷ b) (sym (take_more _ x xs)) (sym (drop_more _ x xs)))

without_sign : (xs : List ℕ) → has_byte 61 xs ≡ false → xs ≡ before_first (λ x. eqb x 61) xs
without_sign [] h = refl
without_sign (x ∷ xs) h = go (eqb x 61) refl (λ e. without_sign xs e) h
  where
    go : (b : Bool) → eqb x 61 ≡ b → (has_byte 61 xs ≡ false → xs ≡ before_first (λ x. eqb x 61) xs)
        → (b || has_byte 61 xs) ≡ false → x ∷ xs ≡ before_first (λ x. eqb x 61) (x ∷ xs)
    go true e next h = absurd (true≢false h)
    go false e next h = rw e (ap (λ (ys : List ℕ). x ∷ ys) (next h) ∙ sym (take_more _ x xs))

-- what is after the hyphens of an option
abbrev pub option_text : List ℕ → Option (List ℕ) → List ℕ
option_text name None = name
option_text name (Some value) = name ++ 61 ∷ value

same_text : (rest : List ℕ) → rest ≡ option_text (name_and_value rest).0 (name_and_value rest).1
same_text rest = go (has_byte 61 rest) refl
  where
    go : (b : Bool) → has_byte 61 rest ≡ b
        → rest ≡ option_text (before_first (λ x. eqb x 61) rest) (cond b (Some (after_first (λ x. eqb x 61) rest)) None)
    go true e = with_sign rest e
    go false e = without_sign rest e

behind_hyphens : (rest : List ℕ) (p : List ℕ × Option (List ℕ)) → long_of_rest rest ≡ Some p → rest ≡ option_text p.0 p.1
behind_hyphens [] p e = absurd (cc e)
behind_hyphens (x ∷ xs) p e =
    let same : name_and_value (x ∷ xs) ≡ p = ap (λ (o : Option (List ℕ × Option (List ℕ))). unwrap_or o p) e in
    same_text (x ∷ xs) ∙ ap (λ (q : List ℕ × Option (List ℕ)). option_text q.0 q.1) same

second : (xs : List ℕ) (p : List ℕ × Option (List ℕ)) → option_and_then long_of_rest (strip_byte 45 xs) ≡ Some p → xs ≡ 45 ∷ option_text p.0 p.1
second [] p e = absurd (cc e)
second (x ∷ xs) p e = go (eqb x 45) refl e
  where
    go : (b : Bool) → eqb x 45 ≡ b → option_and_then long_of_rest (cond b (Some xs) None) ≡ Some p → x ∷ xs ≡ 45 ∷ option_text p.0 p.1
    go true h e = ap₂ (λ (y : ℕ) (ys : List ℕ). y ∷ ys) (eqb-true x 45 h) (behind_hyphens xs p e)
    go false h e = absurd (cc e)

-- a long option is two hyphens, its name and, after a `=`, its value
pub long_word_is : (word : List ℕ) (p : List ℕ × Option (List ℕ)) → long_of word ≡ Some p → word ≡ 45 ∷ 45 ∷ option_text p.0 p.1
long_word_is [] p e = absurd (cc e)
long_word_is (x ∷ xs) p e = go (eqb x 45) refl e
  where
    go : (b : Bool) → eqb x 45 ≡ b → option_and_then long_of_rest (option_and_then (strip_byte 45) (cond b (Some xs) None)) ≡ Some p → x ∷ xs ≡ 45 ∷ 45 ∷ option_text p.0 p.1
    go true h e = ap₂ (λ (y : ℕ) (ys : List ℕ). y ∷ ys) (eqb-true x 45 h) (second xs p e)
    go false h e = absurd (cc e)
