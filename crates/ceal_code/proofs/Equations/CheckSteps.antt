-- Lists of arguments, item by item.
use Rattle.std.proofs.Common.{◌≡◌, ℕ, Bool, true, false, ◌&&◌, ◌==◌, List, [], ◌∷◌, refl, length, arith, slice_get, if◌then◌else◌}
use Rattle.ceal_base.specs.declared.kind.Kind.{Kind}
use Rattle.ceal_base.specs.declared.typed.StructInfo.{StructInfo}
use Rattle.ceal_code.specs.Valid.{all_fit, params_fit, others, fits, fits_maybe, type_of}
use Rattle.ceal_code.specs.declared.expr.CodeExpr.{CodeExpr}
use Rattle.ceal_code.specs.declared.expr.VarId.{VarId}

module _ (structs : List StructInfo) (kinds : List Kind) (known : List Bool) where
  pub fit-cons : (k : Kind) (ks : List Kind) (e : CodeExpr) (es : List CodeExpr)
      → all_fit structs kinds known (k ∷ ks) (e ∷ es) ≡ (fits k (type_of structs kinds known e) && all_fit structs kinds known ks es)
  unfolding all_fit
  fit-cons k ks e es = refl

  pub fit-short : (k : Kind) (ks : List Kind) (es : List CodeExpr) → length es ≡ 0 → all_fit structs kinds known (k ∷ ks) es ≡ false
  unfolding all_fit
  fit-short k ks [] h = refl
  fit-short k ks (e ∷ es) h = absurd (omega (arith, h))

  pub fit-end : (ks : List Kind) (es : List CodeExpr) → length ks ≡ 0 → all_fit structs kinds known ks es ≡ (length es == 0)
  unfolding all_fit
  fit-end [] [] h = refl
  fit-end [] (e ∷ es) h = grind arith
  fit-end (k ∷ ks) es h = absurd (omega (arith, h))

  module _ (theirs : List Kind) where
    pub params-cons : (p : VarId) (ps : List VarId) (e : CodeExpr) (es : List CodeExpr)
        → params_fit structs kinds known theirs (p ∷ ps) (e ∷ es)
        ≡ (fits_maybe (slice_get theirs p.0) (type_of structs kinds known e) && params_fit structs kinds known theirs ps es)
    unfolding params_fit
    params-cons p ps e es = refl

    pub params-short : (p : VarId) (ps : List VarId) (es : List CodeExpr) → length es ≡ 0 → params_fit structs kinds known theirs (p ∷ ps) es ≡ false
    unfolding params_fit
    params-short p ps [] h = refl
    params-short p ps (e ∷ es) h = absurd (omega (arith, h))

    pub params-end : (ps : List VarId) (es : List CodeExpr) → length ps ≡ 0 → params_fit structs kinds known theirs ps es ≡ (length es == 0)
    unfolding params_fit
    params-end [] [] h = refl
    params-end [] (e ∷ es) h = grind arith
    params-end (p ∷ ps) es h = absurd (omega (arith, h))

    pub others-end : (v : ℕ) (ps : List VarId) (es : List CodeExpr) → length ps ≡ 0 → params_fit structs kinds known theirs (others v ps) es ≡ (length es == 0)
    unfolding params_fit others
    others-end v [] [] h = refl
    others-end v [] (e ∷ es) h = grind arith
    others-end v (p ∷ ps) es h = absurd (omega (arith, h))

pub others-same : (v : ℕ) (p : VarId) (ps : List VarId) → p.0 ≡ v → others v (p ∷ ps) ≡ others v ps
unfolding others
others-same v p ps h = go (p.0 == v) refl
  where
    go : (b : Bool) → (p.0 == v) ≡ b → (if b then others v ps else p ∷ others v ps) ≡ others v ps
    go true e = refl
    go false e = absurd (grind (arith, e, h))

pub others-differ : (v : ℕ) (p : VarId) (ps : List VarId) → ¬ (p.0 ≡ v) → others v (p ∷ ps) ≡ p ∷ others v ps
unfolding others
others-differ v p ps h = go (p.0 == v) refl
  where
    go : (b : Bool) → (p.0 == v) ≡ b → (if b then others v ps else p ∷ others v ps) ≡ p ∷ others v ps
    go false e = refl
    go true e = absurd (h (grind (arith, e)))

pub ruleset check_steps = (fit-cons, fit-short, fit-end)

pub ruleset param_steps = (params-cons, params-short, params-end)

pub ruleset other_steps = (params-cons, params-short, others-end, others-same, others-differ)
