-- Sets of variables.
use Rattle.std.proofs.Common.{◌≡◌, ℕ, ◌==◌, ◌||◌, ◌&&◌, not, Bool, true, false, if◌then◌else◌, List, [], ◌∷◌, refl, sym, ap, ◌∙◌, length, arith}
use Rattle.std.specs.BTreeMap.{is_at}
use Rattle.std.specs.List.{list_any}
use Rattle.std.specs.Ordering.{nat_cmp}
use Rattle.ceal_fold.specs.States.{has}

pub has-none : (vars : List ℕ) (u : ℕ) → length vars ≡ 0 → has vars u ≡ false
unfolding has
has-none [] u h = refl
has-none (v ∷ vars) u h = absurd (grind (arith, h))

at-is : (v u : ℕ) → is_at (nat_cmp v) u ≡ (v == u)
at-is v u = grind arith

has-first : (v : ℕ) (vars : List ℕ) (u : ℕ) → has (v ∷ vars) u ≡ (v == u || has vars u)
unfolding has
has-first v vars u = ap (λ b. b || list_any (is_at (nat_cmp u)) vars) (at-is u v ∙ go (u == v) refl (v == u) refl)
  where
    go : (a : Bool) → (u == v) ≡ a → (b : Bool) → (v == u) ≡ b → a ≡ b
    go true e true f = refl
    go false e false f = refl
    go true e false f = absurd (grind (arith, e, f))
    go false e true f = absurd (grind (arith, e, f))

module _ (vars vars' : List ℕ) (v u : ℕ) where
  pub has-put : list_any (is_at (nat_cmp u)) vars' ≡ (if is_at (nat_cmp v) u then true else list_any (is_at (nat_cmp u)) vars) → has vars' u ≡ (has vars u || v == u)
  unfolding has
  has-put h = h ∙ ap (λ b. if b then true else list_any (is_at (nat_cmp u)) vars) (at-is v u) ∙ go (list_any (is_at (nat_cmp u)) vars) (v == u)
    where
      go : (a b : Bool) → (if b then true else a) ≡ (a || b)
      go true true = refl
      go true false = refl
      go false true = refl
      go false false = refl

  pub has-left : list_any (is_at (nat_cmp u)) vars' ≡ (if is_at (nat_cmp v) u then false else list_any (is_at (nat_cmp u)) vars) → has vars' u ≡ (not (v == u) && has vars u)
  unfolding has
  has-left h = h ∙ ap (λ b. if b then false else list_any (is_at (nat_cmp u)) vars) (at-is v u) ∙ go (list_any (is_at (nat_cmp u)) vars) (v == u)
    where
      go : (a b : Bool) → (if b then false else a) ≡ (not b && a)
      go a true = refl
      go a false = refl

-- one more goes over from a set to another
pub add-on : (vars vars' rest rest' : List ℕ) (v u : ℕ) (whole : Bool) → rest ≡ v ∷ rest'
    → list_any (is_at (nat_cmp u)) vars' ≡ (if is_at (nat_cmp v) u then true else list_any (is_at (nat_cmp u)) vars)
    → (has vars u || has rest u) ≡ whole → (has vars' u || has rest' u) ≡ whole
add-on vars vars' rest rest' v u whole e h w =
    ap (λ b. b || has rest' u) (has-put vars vars' v u h)
    ∙ go (has vars u) (v == u) (has rest' u)
    ∙ ap (λ b. has vars u || b) (sym (ap (λ s. has s u) e ∙ has-first v rest' u))
    ∙ w
  where
    go : (a b c : Bool) → ((a || b) || c) ≡ (a || (b || c))
    go true b c = refl
    go false b c = refl

pub add-over : (vars rest : List ℕ) (u : ℕ) (whole : Bool) → length rest ≡ 0 → (has vars u || has rest u) ≡ whole → has vars u ≡ whole
add-over vars rest u whole e w = go (has vars u) ∙ ap (λ b. has vars u || b) (sym (has-none rest u e)) ∙ w
  where
    go : (a : Bool) → a ≡ (a || false)
    go true = refl
    go false = refl

pub or-both : (a b : Bool) → (b || a) ≡ (a || b)
or-both true true = refl
or-both true false = refl
or-both false true = refl
or-both false false = refl

pub ruleset join_steps = (or-both)
