-- Whether two blocks are one, and whether a block is among others.
use Rattle.std.proofs.Common.{◌≡◌, Bool, true, false, ◌||◌, List, [], ◌∷◌, ◌++◌, refl, ap, inl, inr}
use Rattle.std.specs.Prelude.{◌⊎◌}
use Rattle.std.proofs.lemmas.Bool.Decides.{eqb_tells}
use Rattle.ceal_base.specs.contracts.word.BlockIdPartialEq.TheImpl.{ghosts}
use Rattle.ceal_base.specs.declared.word.BlockId.{BlockId}
use Rattle.ceal_base.specs.declared.word.BlockId.TheVariants.{Input, Core}
use Rattle.ceal_show.specs.Paths.{same_block, is_in}

abbrev pub Tells : Bool → Type 0 → Type 0
Tells b P = ((b ≡ true) × P) ⊎ ((b ≡ false) × (P → ⊥))

pub same_tells : (a b : BlockId) → Tells (same_block a b) (a ≡ b)
same_tells (Input m) (Input n) = elim (eqb_tells m n) [
  | inl p ↦ inl (p.0, ap Input p.1)
  | inr p ↦ inr (p.0, λ e. p.1 cc)
]
same_tells (Core m) (Core n) = elim (eqb_tells m n) [
  | inl p ↦ inl (p.0, ap Core p.1)
  | inr p ↦ inr (p.0, λ e. p.1 cc)
]
same_tells (Input m) (Core n) = inr (refl, λ e. cc)
same_tells (Core m) (Input n) = inr (refl, λ e. cc)

-- `==` in code
pub eq_same : (a b : BlockId) → ghosts.eq a b ≡ same_block a b
eq_same (Input m) (Input n) = refl
eq_same (Core m) (Core n) = refl
eq_same (Input m) (Core n) = refl
eq_same (Core m) (Input n) = refl

pub same_self : (b : BlockId) → same_block b b ≡ true
same_self b = elim (same_tells b b) [ inl p ↦ p.0 | inr p ↦ absurd (p.1 refl) ]

pub is_in-push : (q b : BlockId) (blocks : List BlockId) → is_in q (blocks ++ b ∷ []) ≡ (is_in q blocks || same_block q b)
is_in-push q b [] = refl_or (same_block q b)
  where
    refl_or : (x : Bool) → (x || false) ≡ x
    refl_or true = refl
    refl_or false = refl
is_in-push q b (c ∷ cs) = rw (is_in-push q b cs) (assoc (same_block q c) (is_in q cs) (same_block q b))
  where
    assoc : (x y z : Bool) → (x || (y || z)) ≡ ((x || y) || z)
    assoc true y z = refl
    assoc false y z = refl
