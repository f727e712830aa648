-- The items in front of a place, one by one.
use Rattle.std.proofs.Common.{◌≡◌, ℕ, zero, suc, ◌+◌, Some, List, [], ◌∷◌, ◌++◌, ◌≤◌, length, take, slice_get, refl, sym, ap, ◌∙◌, arith}
use Rattle.ceal_base.specs.declared.forest.Item.{Item}
use Rattle.ceal_base.specs.declared.forest.Item.TheVariants.{Step, Alloc, Write, Read, End}
use Rattle.ceal_code.proofs.Words.SameIsEqual.{some-same, none-some}
use Rattle.ceal_code.specs.Program.{Code}
use Rattle.ceal_code.specs.Replay.{Store}
use Rattle.ceal_code.specs.Tables.{store_flat}
use Rattle.ceal_theory.proofs.Store.Walk.{after-append, agrees-append}
use Rattle.ceal_theory.specs.Levels.{skipped}
use Rattle.ceal_theory.specs.Walk.{store_after, Agrees, AgreesAll}

pub take-next : (is : List Item) (n : ℕ) (i : Item) → slice_get is n ≡ Some i → take (n + 1) is ≡ take n is ++ i ∷ []
take-next [] n i e = none-some i e
take-next (j ∷ is) zero i e = ap (λ x. x ∷ []) (some-same j i e)
take-next (j ∷ is) (suc n) i e = let k : suc n + 1 ≡ suc (n + 1) = omega arith in rw k (ap (λ xs. j ∷ xs) (take-next is n i e))

-- the effect of one item
one-stored : (code : Code) (s : Store) (i : Item) → store_flat code s (i ∷ []) ≡ store_after code s (i ∷ [])
unfolding store_flat
one-stored code s Step = refl
one-stored code s (Alloc block key) = refl
one-stored code s (Write place value) = refl
one-stored code s (Read place value unit var args) = refl
one-stored code s End = refl

module _ (code now : Code) (s t u : Store) (is : List Item) (n : ℕ) (i : Item) (same : now ≡ code) (at : slice_get is n ≡ Some i) (there : t ≡ store_after code s (take n is)) where
  pub front-stored : u ≡ store_flat now t (i ∷ []) → u ≡ store_after code s (take (n + 1) is)
  front-stored e = e ∙ rw (same, there, take-next is n i at) (one-stored code (store_after code s (take n is)) i ∙ sym (after-append code s (take n is) (i ∷ [])))

  pub front-agrees : AgreesAll code s (take n is) → Agrees t i → AgreesAll code s (take (n + 1) is)
  front-agrees h a = rw (take-next is n i at) (agrees-append code s (take n is) (i ∷ []) h (rw there at a, tt))

-- where the levels or the items are over, the rest is what is there
pub skipped-empty : (n : ℕ) (is : List Item) → length is ≡ 0 → skipped n is ≡ is
unfolding skipped
skipped-empty zero [] e = refl
skipped-empty (suc n) [] e = refl
skipped-empty n (i ∷ is) e = absurd cc

pub skipped-none : (n : ℕ) (is : List Item) → n ≤ 0 → skipped n is ≡ is
unfolding skipped
skipped-none zero is e = refl
skipped-none (suc n) is e = absurd (omega (arith, e))
