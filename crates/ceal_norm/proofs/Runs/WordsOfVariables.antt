-- The words of a unit's parameters, and of the variables of a function.
use Rattle.std.proofs.Common.{◌≡◌, inl, inr, ℕ, zero, suc, ◌-◌, ◌<◌, ◌≤◌, ◌==◌, true, if◌then◌else◌, List, [], ◌∷◌}
use Rattle.std.proofs.Common.{◌++◌, length, map, slice_set, replicate, refl, sym, ap, ap₂, ◌∙◌, arith, length-append}
use Rattle.std.proofs.lemmas.Bool.Decides.{eqb_tells}
use Rattle.std.proofs.lemmas.List.{length-replicate}
use Rattle.ceal_base.specs.declared.typed.StructInfo.{StructInfo}
use Rattle.ceal_base.specs.declared.word.Word.{Word}
use Rattle.ceal_base.specs.declared.word.Word.TheVariants.{Null}
use Rattle.ceal_code.specs.Step.{bound, chosen, woven}
use Rattle.ceal_code.specs.Value.{Plain, Variables, set, expr_value, values}
use Rattle.ceal_code.specs.declared.expr.CodeExpr.{CodeExpr}
use Rattle.ceal_flow.specs.Sets.{is_in}
use Rattle.ceal_mean.specs.Value.{variable_of}
use Rattle.ceal_norm.specs.Expressions.{variable}
use Rattle.ceal_norm.specs.Units.{own_args, without}
use Rattle.ceal_norm.proofs.Validity.KnownVariables.{in-cases}
use Rattle.ceal_norm.proofs.Runs.SameValues.{value-var}

-- each parameter has its own word
pub bound-map : (vs : List ℕ) (word : ℕ → Word) (w : ℕ) → is_in w vs ≡ true → bound (map variable vs) (map word vs) w ≡ word w
unfolding bound set
bound-map [] word w h = cc
bound-map (v ∷ vs) word w h = elim (eqb_tells w v) [
  | inl p ↦ rw p.0 (ap word (sym p.1))
  | inr p ↦ elim (in-cases w v vs h) [ inl e ↦ absurd (p.1 (sym e)) | inr k ↦ rw p.0 (bound-map vs word w k) ]
]

-- what is given after a read: the value for the variable, and its own word for each other
abbrev pub instead : ℕ → Word → (ℕ → Word) → ℕ → Word
instead n value word v = if v == n then value else word v

pub woven-map : (vs : List ℕ) (n : ℕ) (value : Word) (word : ℕ → Word)
    → woven (map variable vs) n value (map word (without n vs)) ≡ map (instead n value word) vs
unfolding woven without
woven-map [] n value word = refl
woven-map (v ∷ vs) n value word = elim (eqb_tells v n) [
  | inl p ↦ rw p.0 (ap (λ ws. value ∷ ws) (woven-map vs n value word))
  | inr p ↦ rw p.0 (ap (λ ws. word v ∷ ws) (woven-map vs n value word))
]

pub chosen-map : (vs : List ℕ) (args : List Word) → chosen (map variable vs) args ≡ map (λ v. variable_of args v) vs
unfolding chosen
chosen-map [] args = refl
chosen-map (v ∷ vs) args = ap (λ ws. variable_of args v ∷ ws) (chosen-map vs args)

module _ (structs : List StructInfo) (x : Plain) (env : Variables) where
  pub values-map : (e : ℕ → CodeExpr) (word : ℕ → Word) → ((v : ℕ) → expr_value structs x env (e v) ≡ word v) → (vs : List ℕ)
      → values structs x env (map e vs) ≡ map word vs
  unfolding values
  values-map e word h [] = refl
  values-map e word h (v ∷ vs) = ap₂ (λ w ws. w ∷ ws) (h v) (values-map e word h vs)

  pub values-own : (vs : List ℕ) → values structs x env (own_args vs) ≡ map env vs
  unfolding values
  values-own [] = refl
  values-own (v ∷ vs) = ap₂ (λ w ws. w ∷ ws) (value-var structs x env (variable v)) (values-own vs)

-- a variable that is set
set-same : (env : List Word) (n : ℕ) (w : Word) → n < length env → variable_of (slice_set env n w) n ≡ w
set-same [] n w h = absurd (omega (arith, h))
set-same (y ∷ ys) zero w h = refl
set-same (y ∷ ys) (suc n) w h = set-same ys n w (omega (arith, h))

set-other : (env : List Word) (n v : ℕ) (w : Word) → (v ≡ n → ⊥) → variable_of (slice_set env n w) v ≡ variable_of env v
set-other [] n v w h = refl
set-other (y ∷ ys) zero zero w h = absurd (h refl)
set-other (y ∷ ys) zero (suc v) w h = refl
set-other (y ∷ ys) (suc n) zero w h = refl
set-other (y ∷ ys) (suc n) (suc v) w h = set-other ys n v w (λ e. h (ap suc e))

pub set-word : (env : List Word) (n v : ℕ) (w : Word) → n < length env → variable_of (slice_set env n w) v ≡ instead n w (variable_of env) v
set-word env n v w h = elim (eqb_tells v n) [
  | inl p ↦ rw p.0 (ap (variable_of (slice_set env n w)) p.1 ∙ set-same env n w h)
  | inr p ↦ rw p.0 (set-other env n v w p.1)
]

pub set-long : (env : List Word) (n : ℕ) (w : Word) → length (slice_set env n w) ≡ length env
set-long [] n w = refl
set-long (y ∷ ys) zero w = refl
set-long (y ∷ ys) (suc n) w = ap suc (set-long ys n w)

-- the words of a function's variables at its start
nulls : (k v : ℕ) → variable_of (replicate k Null) v ≡ Null
nulls zero v = refl
nulls (suc k) zero = refl
nulls (suc k) (suc v) = nulls k v

pub start-word : (args : List Word) (k v : ℕ) → variable_of (args ++ replicate k Null) v ≡ variable_of args v
start-word [] k v = nulls k v
start-word (a ∷ args) k zero = refl
start-word (a ∷ args) k (suc v) = start-word args k v

pub start-long : (args : List Word) (n : ℕ) → n ≤ length (args ++ replicate (n - length args) Null)
start-long args n =
    let a = length-append args (replicate (n - length args) Null) in
    let b = length-replicate (n - length args) Null in
    omega (arith, a, b)
