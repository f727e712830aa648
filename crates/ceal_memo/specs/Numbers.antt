-- Lists of stamps by their numbers.
use Rattle.std.specs.Prelude.{◌≡◌, ◌≢◌, ◌⊎◌, ◌≤◌, ◌+◌, ℕ, List, [], ◌∷◌, Some, length, slice_get, unwrap_or}
use Rattle.std.specs.Map.{keys_of, values_of}
use Rattle.ceal_order.specs.Stamps.{without}
use Rattle.ceal_memo.specs.Lists.{stamps_at}

-- the list with a number: empty where there is none
abbrev pub list_at : List (ℕ × List ℕ) → ℕ → List ℕ
list_at lists n = unwrap_or (slice_get (values_of lists) n) []

-- the hashes, in the order of their numbers
abbrev pub hashes_in : List (ℕ × List ℕ) → List ℕ
hashes_in lists = keys_of lists

-- of the lists under one hash one has stamps at most
abbrev pub OneList : List (ℕ × List ℕ) → Type 0
OneList lists = (m n hash : ℕ) (a b : List ℕ) → slice_get lists m ≡ Some (hash, a) → slice_get lists n ≡ Some (hash, b)
    → a ≢ [] → b ≢ [] → m ≡ n

-- a hash has these stamps now, in the list with this number, which had those of the hash before;
-- the other lists are as they were
pub record IsEntered (old new : List (ℕ × List ℕ)) (hash n : ℕ) (stamps : List ℕ) : Type 0 where
  pub here : slice_get new n ≡ Some (hash, stamps)
  pub others : (i : ℕ) → i ≢ n → slice_get new i ≡ slice_get old i
  pub before : list_at old n ≡ stamps_at old hash
  pub place : (k s : ℕ) (ss : List ℕ) → slice_get old n ≡ Some (k, s ∷ ss) → k ≡ hash
  pub unique : OneList new

-- each list is without a stamp now
pub record IsWithout (s : ℕ) (old new : List (ℕ × List ℕ)) : Type 0 where
  pub hashes : hashes_in new ≡ hashes_in old
  pub lists : (n : ℕ) → list_at new n ≡ without s (list_at old n)

-- how many stamps the lists have
abbrev pub stamp_count : List (ℕ × List ℕ) → ℕ
stamp_count [] = 0
stamp_count (l ∷ ls) = length l.1 + stamp_count ls

-- there are no more lists than before, or no more than stamps: one that is empty is used before another is made
abbrev pub UsesEmpty : List (ℕ × List ℕ) → List (ℕ × List ℕ) → Type 0
UsesEmpty old new = (length new ≤ length old) ⊎ (length new ≤ stamp_count new)
