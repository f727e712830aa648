-- The entries of recorded reads and allocations by their keys (memo tables: Acar, *Self-Adjusting Computation*, 2005).
use Rattle.std.specs.Prelude.{◌≡◌, ◌≢◌, ◌<◌, ◌≤◌, ℕ, List, Option, None, Some, Bool, true, false, ◌==◌, if◌then◌else◌}
use Rattle.ceal_order.specs.Stamps.{is_in, place}
use Rattle.ceal_memo.specs.Hashes.{hash_of}
use Rattle.ceal_memo.specs.Keys.{EntryKey}
use Rattle.ceal_memo.specs.declared.memo.Hashed.{Hashed}
use Rattle.ceal_memo.specs.Table.{ByHash, entries_of, Follows as Table_follows, HasNone as Table_has_none}

-- Entries are told by the key of the one at each stamp.

-- no entries
abbrev pub no_entries : ℕ → Option EntryKey
no_entries s = None

-- with a key at a stamp
abbrev pub with_key : ℕ → EntryKey → (ℕ → Option EntryKey) → ℕ → Option EntryKey
with_key s key entries t = if s == t then Some key else entries t

-- with none at a stamp
abbrev pub without_key : ℕ → (ℕ → Option EntryKey) → ℕ → Option EntryKey
without_key s entries t = if s == t then None else entries t

-- of the entries with a key the earliest after a stamp
pub record IsFirstWith (order : List ℕ) (entries : ℕ → Option EntryKey) (key : EntryKey) (after s : ℕ) : Type 0 where
  pub entry : entries s ≡ Some key
  pub behind : place after order < place s order
  pub earliest : (t : ℕ) → entries t ≡ Some key → place after order < place t order → place s order ≤ place t order

-- no entry with a key is between two stamps
abbrev pub NoneWith : List ℕ → (ℕ → Option EntryKey) → EntryKey → ℕ → ℕ → Type 0
NoneWith order entries key after until = (t : ℕ) → entries t ≡ Some key → place after order < place t order
    → place until order ≤ place t order

-- ---- a memo keeps only stamps; that it has certain entries is a relation of both

-- what a memo is made of
pub record Contents : Type 0 where
  pub table : ByHash
  pub seed : List ℕ

-- whether an entry is under a hash
abbrev pub is_under : List ℕ → ℕ → Option EntryKey → Bool
is_under seed hash None = false
is_under seed hash (Some key) = hash_of seed key == hash

-- a memo has these entries, and no others
pub record Holds (memo : Contents) (entries : ℕ → Option EntryKey) : Type 0 where
  pub stamps : (hash s : ℕ) → is_in s (entries_of memo.table hash) ≡ is_under memo.seed hash (entries s)

-- a key as it is entered into a memo
pub record IsOf (memo : Contents) (key : EntryKey) (hashed : Hashed) : Type 0 where
  pub hash : hashed.hash ≡ hash_of memo.seed key

-- a memo follows an order: it has each stamp with an entry, and what is kept rises along it
pub record Follows (order : List ℕ) (memo : Contents) : Type 0 where
  pub table : Table_follows order memo.table

-- a stamp has no entry
pub record HasNone (s : ℕ) (memo : Contents) : Type 0 where
  pub table : Table_has_none s memo.table

-- the new order has the stamps of these entries too, and in the order that they have in the old one
pub record KeepsEntries (entries : ℕ → Option EntryKey) (old new : List ℕ) : Type 0 where
  pub there : (s : ℕ) → entries s ≢ None → is_in s new ≡ true
  pub order : (a b : ℕ) → entries a ≢ None → entries b ≢ None → place a old < place b old
      → place a new < place b new
