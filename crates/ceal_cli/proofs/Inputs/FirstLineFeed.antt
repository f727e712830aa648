-- The first line feed of a text.
use Rattle.std.proofs.Common.{◌≡◌, ℕ, ◌+◌, ◌<◌, ◌≤◌, Bool, true, false, List, [], ◌∷◌, ◌++◌, length, take, drop, get_or}
use Rattle.std.proofs.Common.{Some, None, refl, sym, ap, ◌∙◌, arith, position, ltb, eqb, cond, subst, take-append-drop}
use borrow.Author.Tests.{ltb-true, ltb-false}
use Rattle.std.proofs.lemmas.List.{drop_more}
use Rattle.std.specs.List.{slice_split, position_or_len}
use Rattle.std.proofs.lemmas.List.Splits.{slice_split_first, slice_split_none}
use Rattle.std.proofs.lemmas.List.Sums.{fails_before_first, passes_at_first}

-- a place that was found is the first, and is in range
found_at : (b : Bool) (n m at : ℕ) → ltb n m ≡ b → cond b (Some n) None ≡ Some at → (n < m) × (n ≡ at)
found_at true n m at below found = (ltb-true n m below, cc)
found_at false n m at below found = absurd (cc)

-- where none was found, the first place is past the end
none_found : (b : Bool) (n m : ℕ) → ltb n m ≡ b → cond b (Some n) None ≡ None → m ≤ n
none_found true n m below found = absurd (cc)
none_found false n m below found = ltb-false n m below

module _ (p : ℕ → Bool) (xs : List ℕ) where
  pub cut_some : (at : ℕ) → position p xs ≡ Some at → (at < length xs) × (slice_split p xs ≡ take at xs ∷ slice_split p (drop (at + 1) xs))
  cut_some at found =
      let here = found_at _ (position_or_len p xs) (length xs) at refl found in (
        subst (λ (n : ℕ). n < length xs) here.1 here.0,
        subst (λ (n : ℕ). slice_split p xs ≡ take n xs ∷ slice_split p (drop (n + 1) xs)) here.1 (slice_split_first p xs 0 here.0),
      )

  pub cut_none : position p xs ≡ None → slice_split p xs ≡ xs ∷ []
  cut_none found =
      let past = none_found _ (position_or_len p xs) (length xs) refl found in
      slice_split_none p xs (λ k d h. fails_before_first p xs k d (omega arith))

  pub passes_where : (at : ℕ) → position p xs ≡ Some at → p (get_or xs at 0) ≡ true
  passes_where at found =
      let here = found_at _ (position_or_len p xs) (length xs) at refl found in
      subst (λ (n : ℕ). p (get_or xs n 0) ≡ true) here.1 (passes_at_first p xs 0 here.0)

is_line_feed : (b : ℕ) → eqb b 10 ≡ true → b ≡ 10
is_line_feed b e = grind arith

-- a text is what is before its first line feed, that, and what is after it
pub whole_text : (xs : List ℕ) (at : ℕ) → position (λ b. eqb b 10) xs ≡ Some at → at < length xs → xs ≡ take at xs ++ 10 ∷ drop (at + 1) xs
whole_text xs at found within =
    let feed = is_line_feed _ (passes_where (λ b. eqb b 10) xs at found) in
    sym (take-append-drop at xs) ∙ ap (λ (l : List ℕ). take at xs ++ l) (drop_more xs at 0 within ∙ ap (λ (b : ℕ). b ∷ drop (at + 1) xs) feed)
