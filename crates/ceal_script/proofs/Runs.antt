-- The bytes at the front that pass a test.
use Rattle.std.proofs.Common.{◌≡◌, ℕ, Bool, true, false, not, List, [], ◌∷◌, ◌++◌, length, take, drop, refl, sym, ap, ◌∙◌, arith, inl, inr}
use Rattle.std.specs.Prelude.{position, unwrap_or, nat_lt, IsTrue, IsFalse}
use Rattle.std.specs.List.{AllByRecursion, prefix_len, position_or_len}
use Rattle.std.proofs.lemmas.Bool.{cases_Bool, ltb-false, false≢true}
use Rattle.std.proofs.lemmas.List.Sums.{prefix_len-le-length}
use Rattle.std.proofs.Math.Numerals.{one-add}

-- what follows does not pass, if anything does
abbrev pub EndsRun : (ℕ → Bool) → List ℕ → Type 0
EndsRun test [] = Unit {0}
EndsRun test (b ∷ bs) = IsFalse (test b)

module _ (test : ℕ → Bool) where
  pub run_passes : (bs : List ℕ) → AllByRecursion (λ b. IsTrue (test b)) (take (prefix_len test bs) bs)
  run_passes [] = tt
  run_passes (b ∷ bs) = elim (cases_Bool (test b)) [
    | inl e ↦ rw (e, one-add) (e, run_passes bs)
    | inr e ↦ rw e tt
  ]

  pub run_ends : (bs : List ℕ) → EndsRun test (drop (prefix_len test bs) bs)
  run_ends [] = tt
  run_ends (b ∷ bs) = elim (cases_Bool (test b)) [
    | inl e ↦ rw (e, one-add) (run_ends bs)
    | inr e ↦ rw e e
  ]

  -- one list parts in one way into a run and what ends it
  pub same_runs : (a b x y : List ℕ) → AllByRecursion (λ c. IsTrue (test c)) a → AllByRecursion (λ c. IsTrue (test c)) b
      → EndsRun test x → EndsRun test y → a ++ x ≡ b ++ y → (a ≡ b) × (x ≡ y)
  same_runs [] [] x y p q r s e = (refl, e)
  same_runs [] (d ∷ b) [] y p q r s e = absurd cc
  same_runs [] (d ∷ b) (c ∷ x) y p q r s e =
      let h : c ≡ d = cc in
      absurd (false≢true (sym r ∙ ap test h ∙ q.0))
  same_runs (c ∷ a) [] x [] p q r s e = absurd cc
  same_runs (c ∷ a) [] x (d ∷ y) p q r s e =
      let h : c ≡ d = cc in
      absurd (false≢true (sym s ∙ ap test (sym h) ∙ p.0))
  same_runs (c ∷ a) (d ∷ b) x y p q r s e =
      let t : a ++ x ≡ b ++ y = cc in
      let h : c ≡ d = cc in
      let u = same_runs a b x y p.1 q.1 r s t in
      (let v = u.0 in cc, u.1)

-- a test turned twice
run_same : (test other : ℕ → Bool) → ((b : ℕ) → test b ≡ other b) → (bs : List ℕ) → prefix_len test bs ≡ prefix_len other bs
run_same test other h [] = refl
run_same test other h (b ∷ bs) = rw (h b, run_same test other h bs) refl

twice : (b : Bool) → not (not b) ≡ b
twice true = refl
twice false = refl

pub run_turned : (test : ℕ → Bool) (bs : List ℕ) → position_or_len (λ b. not (test b)) bs ≡ prefix_len test bs
run_turned test bs = run_same (λ b. not (not (test b))) test (λ b. twice (test b)) bs

-- where a test first passes, or the length
pub position_default : (test : ℕ → Bool) (bs : List ℕ) → unwrap_or (position test bs) (length bs) ≡ position_or_len test bs
position_default test bs = elim (cases_Bool (nat_lt (position_or_len test bs) (length bs))) [
  | inl e ↦ rw e refl
  | inr e ↦
      let p = prefix_len-le-length (λ b. not (test b)) bs in
      let q = ltb-false (position_or_len test bs) (length bs) e in
      rw e (omega (arith, p, q))
]
