-- Lists, and sets of variables that are known.
use Rattle.std.proofs.Common.{◌≡◌, ◌⊎◌, inl, inr, ℕ, zero, suc, ◌<◌, ◌==◌, Bool, true, false, Some, IsSome, List, []}
use Rattle.std.proofs.Common.{◌∷◌, ◌++◌, length, map, option_map, slice_get, slice_set, unwrap_or, refl, sym, ap, ◌∙◌}
use Rattle.std.proofs.Common.{subst, arith}
use Rattle.std.proofs.lemmas.Bool.{or_right, lt-ltb}
use Rattle.std.proofs.lemmas.Bool.Decides.{eqb_tells}
use Rattle.std.proofs.lemmas.List.{length-set}
use Rattle.std.proofs.lemmas.Option.{slice_get-map}
use Rattle.ceal_code.proofs.Words.SameIsEqual.{both-true}
use Rattle.ceal_code.specs.Valid.{with_params, below}
use Rattle.ceal_code.specs.declared.expr.VarId.{VarId}
use Rattle.ceal_flow.specs.Sets.{is_in}
use Rattle.ceal_norm.specs.Expressions.{variable}

pub get-map : {X Y : Type 0} (f : X → Y) (xs : List X) (i : ℕ) (x : X) → slice_get xs i ≡ Some x → slice_get (map f xs) i ≡ Some (f x)
get-map f xs i x h = slice_get-map f xs i ∙ ap (λ o. option_map f o) h

pub some-within : {X : Type 0} (xs : List X) (i : ℕ) → IsSome (slice_get xs i) → i < length xs
some-within [] i h = cc
some-within (x ∷ xs) zero h = omega arith
some-within (x ∷ xs) (suc i) h = let l = some-within xs i h in omega (arith, l)

-- an item that is there
pub record There {X : Type 0} (xs : List X) (i : ℕ) : Type 0 where
  pub item : X
  pub is : slice_get xs i ≡ Some item

pub there : {X : Type 0} (xs : List X) (i : ℕ) → i < length xs → There xs i
there [] i h = absurd (omega (arith, h))
there (x ∷ xs) zero h = record { item = x; is = refl }
there (x ∷ xs) (suc i) h = let t = there xs i (omega (arith, h)) in record { item = t.item; is = t.is }

-- items of a set
pub in-first : (x : ℕ) (xs : List ℕ) → is_in x (x ∷ xs) ≡ true
in-first x xs = elim (eqb_tells x x) [ inl p ↦ rw p.0 refl | inr p ↦ absurd (p.1 refl) ]

pub in-cases : (v x : ℕ) (xs : List ℕ) → is_in v (x ∷ xs) ≡ true → (x ≡ v) ⊎ (is_in v xs ≡ true)
in-cases v x xs h = elim (eqb_tells x v) [ inl p ↦ inl p.1 | inr p ↦ inr (rw p.0 at h) ]

pub in-later : (v x : ℕ) (xs : List ℕ) → is_in v xs ≡ true → is_in v (x ∷ xs) ≡ true
in-later v x xs h = or_right (x == v) (is_in v xs) h

pub in-left : (v : ℕ) (xs ys : List ℕ) → is_in v xs ≡ true → is_in v (xs ++ ys) ≡ true
in-left v [] ys h = cc
in-left v (x ∷ xs) ys h = elim (in-cases v x xs h) [
  | inl e ↦ subst (λ y. is_in v (y ∷ (xs ++ ys)) ≡ true) (sym e) (in-first v (xs ++ ys))
  | inr k ↦ in-later v x (xs ++ ys) (in-left v xs ys k)
]

pub in-right : (v : ℕ) (xs ys : List ℕ) → is_in v ys ≡ true → is_in v (xs ++ ys) ≡ true
in-right v [] ys h = h
in-right v (x ∷ xs) ys h = in-later v x (xs ++ ys) (in-right v xs ys h)

pub in-either : (v : ℕ) (xs ys : List ℕ) → is_in v (xs ++ ys) ≡ true → (is_in v xs ≡ true) ⊎ (is_in v ys ≡ true)
in-either v [] ys h = inr h
in-either v (x ∷ xs) ys h = elim (in-cases v x (xs ++ ys) h) [
  | inl e ↦ inl (subst (λ y. is_in v (y ∷ xs) ≡ true) (sym e) (in-first v xs))
  | inr k ↦ elim (in-either v xs ys k) [ inl l ↦ inl (in-later v x xs l) | inr r ↦ inr r ]
]

-- the variable is known
abbrev pub Knows : List Bool → ℕ → Type 0
Knows known v = unwrap_or (slice_get known v) false ≡ true

pub knows-set : (known : List Bool) (v : ℕ) → v < length known → Knows (slice_set known v true) v
knows-set [] v h = absurd (omega (arith, h))
knows-set (k ∷ ks) zero h = refl
knows-set (k ∷ ks) (suc v) h = knows-set ks v (omega (arith, h))

pub knows-still : (known : List Bool) (v w : ℕ) → Knows known w → Knows (slice_set known v true) w
knows-still [] v w h = h
knows-still (k ∷ ks) zero zero h = refl
knows-still (k ∷ ks) zero (suc w) h = h
knows-still (k ∷ ks) (suc v) zero h = h
knows-still (k ∷ ks) (suc v) (suc w) h = knows-still ks v w h

pub params-know : (ps : List ℕ) (known : List Bool) (v : ℕ) → v < length known → (is_in v ps ≡ true) ⊎ Knows known v → Knows (with_params known (map variable ps)) v
unfolding with_params
params-know [] known v l (inl h) = cc
params-know [] known v l (inr h) = h
params-know (p ∷ ps) known v l h =
    let longer : v < length (slice_set known p true) = subst (λ n. v < n) (sym (length-set known p true)) l in
    params-know ps (slice_set known p true) v longer (next h)
  where
    next : (is_in v (p ∷ ps) ≡ true) ⊎ Knows known v → (is_in v ps ≡ true) ⊎ Knows (slice_set known p true) v
    next (inr k) = inr (knows-still known p v k)
    next (inl k) = elim (in-cases v p ps k) [
      | inl e ↦ inr (subst (λ q. Knows (slice_set known q true) v) (sym e) (knows-set known v l))
      | inr m ↦ inl m
    ]

pub params-length : (ps : List VarId) (known : List Bool) → length (with_params known ps) ≡ length known
unfolding with_params
params-length [] known = refl
params-length (p ∷ ps) known = params-length ps (slice_set known p.0 true) ∙ length-set known p.0 true

pub all-below : (n : ℕ) (ps : List ℕ) → ((v : ℕ) → is_in v ps ≡ true → v < n) → below n (map variable ps) ≡ true
unfolding below
all-below n [] h = refl
all-below n (p ∷ ps) h = both-true _ _ (lt-ltb p n (h p (in-first p ps))) (all-below n ps (λ v k. h v (in-later v p ps k)))
