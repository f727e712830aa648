-- The stamps of entries by the hashes of their keys.
use Rattle.std.specs.Prelude.{◌≡◌, ◌≢◌, ℕ, List, true, false}
use Rattle.ceal_order.specs.Stamps.{is_in}
use Rattle.ceal_order.specs.Rising.{IsRising}
use Rattle.ceal_memo.specs.Lists.{stamps_at}

-- for each hash the stamps of the entries whose keys have it
pub record ByHash : Type 0 where
  pub lists : List (ℕ × List ℕ)

-- the stamps of the entries under a hash
abbrev pub entries_of : ByHash → ℕ → List ℕ
entries_of table hash = stamps_at table.lists hash

-- a table follows an order along which the stamps under each hash rise
pub record Follows (order : List ℕ) (table : ByHash) : Type 0 where
  pub rising : (hash : ℕ) → IsRising order (entries_of table hash)

-- a stamp has no entry
pub record HasNone (s : ℕ) (table : ByHash) : Type 0 where
  pub none : (hash : ℕ) → is_in s (entries_of table hash) ≡ false

-- a stamp has one entry at most
abbrev pub OneEntry : ByHash → Type 0
OneEntry table = (s a b : ℕ) → is_in s (entries_of table a) ≡ true → is_in s (entries_of table b) ≡ true → a ≡ b

-- the entries under one hash have these stamps now, and nothing else has changed
pub record EntriesChange (hash : ℕ) (stamps : List ℕ) (old new : ByHash) : Type 0 where
  pub here : entries_of new hash ≡ stamps
  pub others : (other : ℕ) → other ≢ hash → entries_of new other ≡ entries_of old other
