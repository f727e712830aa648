-- How far the bytes at the front pass a test.
use Rattle.std.proofs.Common.{◌≡◌, ℕ, ◌≤◌, Bool, true, false, not, List, [], ◌∷◌, ◌++◌, length, take, drop, refl, ap, arith, inl, inr}
use Rattle.std.specs.Prelude.{IsTrue, position, unwrap_or, nat_lt, ◌≢◌, ◌==◌}
use Rattle.std.specs.List.{AllByRecursion, prefix_len, position_or_len}
use Rattle.std.proofs.lemmas.Bool.{cases_Bool, ltb-false}
use Rattle.std.proofs.lemmas.Bool.Decides.{eqb_tells}
use Rattle.std.proofs.Math.Numerals.{one-add}
use Rattle.ceal_lex.specs.Characters.{LINE_FEED}
use Rattle.ceal_lex.specs.Pieces.{EndsLine}

module _ (test : ℕ → Bool) where
  pub run_within : (bs : List ℕ) → prefix_len test bs ≤ length bs
  run_within [] = omega arith
  run_within (b ∷ bs) = let p = run_within bs in elim (cases_Bool (test b)) [
    | inl e ↦ rw e (omega (arith, p))
    | inr e ↦ rw e (omega arith)
  ]

  -- the bytes of the run pass
  pub run_passes : (bs : List ℕ) → AllByRecursion (λ b. IsTrue (test b)) (take (prefix_len test bs) bs)
  run_passes [] = tt
  run_passes (b ∷ bs) = elim (cases_Bool (test b)) [
    | inl e ↦ rw (e, one-add) (e, run_passes bs)
    | inr e ↦ rw e tt
  ]

  -- bytes at the front that pass are in the run
  pub run_longest : (a r : List ℕ) → AllByRecursion (λ b. IsTrue (test b)) a → length a ≤ prefix_len test (a ++ r)
  run_longest [] r h = omega arith
  run_longest (b ∷ a) r h = let p = run_longest a r h.1 in rw h.0 (omega (arith, p))

-- a test turned twice
pub run_same : (test other : ℕ → Bool) → ((b : ℕ) → test b ≡ other b) → (bs : List ℕ) → prefix_len test bs ≡ prefix_len other bs
run_same test other h [] = refl
run_same test other h (b ∷ bs) = rw (h b, run_same test other h bs) refl

twice : (b : Bool) → not (not b) ≡ b
twice true = refl
twice false = refl

pub run_turned : (test : ℕ → Bool) (bs : List ℕ) → position_or_len (λ b. not (test b)) bs ≡ prefix_len test bs
run_turned test bs = run_same (λ b. not (not (test b))) test (λ b. twice (test b)) bs

-- where a test first passes, or the length
pub position_default : (test : ℕ → Bool) (bs : List ℕ) → unwrap_or (position test bs) (length bs) ≡ position_or_len test bs
position_default test bs = elim (cases_Bool (nat_lt (position_or_len test bs) (length bs))) [
  | inl e ↦ rw e refl
  | inr e ↦
      let p = run_within (λ b. not (test b)) bs in
      let q = ltb-false (position_or_len test bs) (length bs) e in
      rw e (omega (arith, p, q))
]

-- what is before the end of a line, and what follows it
pub line_passes : (bs : List ℕ) → AllByRecursion (λ b. b ≢ LINE_FEED) (take (position_or_len (λ b. b == LINE_FEED) bs) bs)
line_passes [] = tt
line_passes (b ∷ bs) = elim (eqb_tells b LINE_FEED) [
  | inl e ↦ rw e.0 tt
  | inr e ↦ rw (e.0, one-add) (e.1, line_passes bs)
]

pub line_ends : (bs : List ℕ) → EndsLine (drop (position_or_len (λ b. b == LINE_FEED) bs) bs)
line_ends [] = inl refl
line_ends (b ∷ bs) = elim (eqb_tells b LINE_FEED) [
  | inl e ↦ rw e.0 (inr (bs, ap (λ (c : ℕ). c ∷ bs) e.1))
  | inr e ↦ rw (e.0, one-add) (line_ends bs)
]
