-- The walk of a body, path by path.
use Rattle.std.proofs.Common.{◌≡◌, ℕ, zero, suc, ◌+◌, ◌-◌, ◌<◌, ◌≤◌, Bool, true, false, ◌&&◌, List, [], ◌∷◌, ◌++◌, refl, length, arith, slice_get, slice_set}
use Rattle.ceal_code.specs.Parts.{parts_ok, weight, weights}
use Rattle.ceal_code.specs.Program.{Code}
use Rattle.ceal_code.specs.Valid.{paths_ok, path_ok, with_params}
use Rattle.ceal_code.specs.declared.command.Cmd.{Cmd}
use Rattle.ceal_code.specs.declared.expr.VarId.{VarId}
use Rattle.ceal_code.specs.declared.paths.Part.{Part}

pub params-cons : (known : List Bool) (p : VarId) (ps : List VarId) → with_params known (p ∷ ps) ≡ with_params (slice_set known p.0 true) ps
unfolding with_params
params-cons known p ps = refl

pub params-end : (known : List Bool) (ps : List VarId) → length ps ≡ 0 → with_params known ps ≡ known
unfolding with_params
params-end known [] h = refl
params-end known (p ∷ ps) h = absurd (omega (arith, h))

pub weight-positive : (n : ℕ) → 1 ≤ weight n
unfolding weight
weight-positive zero = omega arith
weight-positive (suc n) = omega arith

pub weight-step : (n : ℕ) → 0 < n → weight n ≡ 1 + (weight (n - 1) + weight (n - 1))
unfolding weight
weight-step zero h = absurd (omega (arith, h))
weight-step (suc n) h = let e : (suc n - 1) ≡ n = omega arith in rw e

module _ (code : Code) (f : ℕ) (body : List Cmd) where
  and-swap : (a b c : Bool) → (a && (b && c)) ≡ (b && (a && c))
  and-swap true b c = refl
  and-swap false true c = refl
  and-swap false false c = refl

  pub parts-push : (ps : List Part) (p : Part)
      → parts_ok code f body (ps ++ p ∷ []) ≡ (paths_ok code f body p.left p.index p.known.items p.stepped && parts_ok code f body ps)
  unfolding parts_ok
  parts-push [] p = refl
  parts-push (q ∷ qs) p =
      let e = parts-push qs p in
      rw (e, and-swap (paths_ok code f body q.left q.index q.known.items q.stepped) (paths_ok code f body p.left p.index p.known.items p.stepped) (parts_ok code f body qs))

  pub parts-none : parts_ok code f body [] ≡ true
  unfolding parts_ok
  parts-none = refl

  pub paths-end : (n i : ℕ) (known : List Bool) (stepped : Bool) → n ≡ 0 → paths_ok code f body n i known stepped ≡ false
  unfolding paths_ok
  paths-end zero i known stepped h = refl
  paths-end (suc n) i known stepped h = absurd (omega (arith, h))

  pub paths-step : (n i : ℕ) (known : List Bool) (stepped : Bool) → 0 < n
      → paths_ok code f body n i known stepped ≡ path_ok code f (paths_ok code f body (n - 1)) (slice_get body i) i known stepped
  unfolding paths_ok
  paths-step zero i known stepped h = absurd (omega (arith, h))
  paths-step (suc n) i known stepped h = let e : (suc n - 1) ≡ n = omega arith in rw e

pub weights-push : (ps : List Part) (p : Part) → weights (ps ++ p ∷ []) ≡ weight p.left + weights ps
unfolding weights
weights-push [] p = refl
weights-push (q ∷ qs) p = omega (arith, weights-push qs p)

pub weights-none : weights [] ≡ 0
unfolding weights
weights-none = refl

pub and-true : (b : Bool) → (b && true) ≡ b
and-true true = refl
and-true false = refl

pub ruleset known_steps = (params-cons, params-end)

pub ruleset part_steps = (parts-push, weights-push, weight-positive, weight-step)

pub ruleset path_steps = (paths-end, paths-step, weight-positive)

pub ruleset weight_steps = (weight-positive)

pub ruleset walk_steps = (parts-push, parts-none, and-true, weights-push, weights-none)
