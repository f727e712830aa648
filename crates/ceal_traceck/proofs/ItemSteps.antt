-- What is asked of items, one by one.
use Rattle.std.proofs.Common.{◌≡◌, ◌&&◌, true, List, [], ◌∷◌, length, refl, arith}
use Rattle.ceal_base.specs.declared.forest.Item.{Item}
use Rattle.ceal_code.specs.Program.{Code}
use Rattle.ceal_code.specs.Replay.{Store}
use Rattle.ceal_code.specs.Tables.{plain_item, plain_flat, store_item, store_flat}
use Rattle.ceal_code.specs.Value.{Plain}
use Rattle.ceal_traceck.specs.Items.{names_known, all_named, records, all_honest}

module _ (code : Code) where
  pub named-none : (x : Plain) → all_named code x [] ≡ true
  unfolding all_named
  named-none x = refl

  pub named-more : (x : Plain) (i : Item) (is : List Item) → all_named code x (i ∷ is) ≡ (names_known x i && all_named code (plain_item code x i) is)
  unfolding all_named
  named-more x i is = refl

  pub honest-none : (s : Store) → all_honest code s [] ≡ true
  unfolding all_honest
  honest-none s = refl

  pub honest-more : (s : Store) (i : Item) (is : List Item) → all_honest code s (i ∷ is) ≡ (records s i && all_honest code (store_item code s i) is)
  unfolding all_honest
  honest-more s i is = refl

  pub plain-none : (x : Plain) → plain_flat code x [] ≡ x
  unfolding plain_flat
  plain-none x = refl

  pub plain-more : (x : Plain) (i : Item) (is : List Item) → plain_flat code x (i ∷ is) ≡ plain_flat code (plain_item code x i) is
  unfolding plain_flat
  plain-more x i is = refl

  pub store-none : (s : Store) → store_flat code s [] ≡ s
  unfolding store_flat
  store-none s = refl

  pub store-more : (s : Store) (i : Item) (is : List Item) → store_flat code s (i ∷ is) ≡ store_flat code (store_item code s i) is
  unfolding store_flat
  store-more s i is = refl

pub ruleset named_steps = (named-none, named-more, plain-none, plain-more)

pub ruleset honest_steps = (honest-none, honest-more, store-none, store-more)

-- nothing is left
pub named-end : (code : Code) (x : Plain) (is : List Item) → length is ≡ 0 → all_named code x is ≡ true
unfolding all_named
named-end code x [] e = refl
named-end code x (i ∷ is) e = absurd (omega (arith, e))

pub plain-end : (code : Code) (x : Plain) (is : List Item) → length is ≡ 0 → plain_flat code x is ≡ x
unfolding plain_flat
plain-end code x [] e = refl
plain-end code x (i ∷ is) e = absurd (omega (arith, e))

pub honest-end : (code : Code) (s : Store) (is : List Item) → length is ≡ 0 → all_honest code s is ≡ true
unfolding all_honest
honest-end code s [] e = refl
honest-end code s (i ∷ is) e = absurd (omega (arith, e))

pub store-end : (code : Code) (s : Store) (is : List Item) → length is ≡ 0 → store_flat code s is ≡ s
unfolding store_flat
store-end code s [] e = refl
store-end code s (i ∷ is) e = absurd (omega (arith, e))
