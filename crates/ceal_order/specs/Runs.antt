-- Links one after another whose labels lie in one range, and the labels that they are given.
use Rattle.std.specs.Prelude.{◌≡◌, ◌≢◌, true, ◌<◌, ◌≤◌, ◌^◌, ◌+◌, ◌*◌, ℕ, List}
use Rattle.ceal_order.specs.declared.link.Link.{Link}
use Rattle.ceal_order.specs.declared.run.Run.{Run}
use Rattle.ceal_order.specs.Stamps.{is_in, place}
use Rattle.ceal_order.specs.Links.{label_of, stamps_of, SameLinks}

-- stamps before a link have labels below low
abbrev pub LowBefore : List Link → ℕ → ℕ → Type 0
LowBefore links first low = (s : ℕ) → is_in s (stamps_of links) ≡ true
    → place s (stamps_of links) < place first (stamps_of links) → label_of links s < low

-- stamps after a link have labels from high on
abbrev pub HighAfter : List Link → ℕ → ℕ → Type 0
HighAfter links last high = (s : ℕ) → is_in s (stamps_of links) ≡ true
    → place last (stamps_of links) < place s (stamps_of links) → high ≤ label_of links s

-- `count` links one after another, a link among them
pub record IsRun (links : List Link) (at first last count : ℕ) : Type 0 where
  pub here : is_in at (stamps_of links) ≡ true
  pub first_in : is_in first (stamps_of links) ≡ true
  pub last_in : is_in last (stamps_of links) ≡ true
  pub from : place first (stamps_of links) ≤ place at (stamps_of links)
  pub to : place at (stamps_of links) ≤ place last (stamps_of links)
  pub counted : place first (stamps_of links) + count ≡ place last (stamps_of links) + 1

-- all links in a range of 2^bits labels are in the run
pub record Fills (links : List Link) (at : ℕ) (run : Run) : Type 0 where
  pub is_run : IsRun links at run.first run.last run.count
  pub before : LowBefore links run.first run.low
  pub after : HighAfter links run.last (run.low + 2 ^ run.bits)
  pub fewest : 3 ≤ run.bits
  pub most : run.bits ≤ 62
  pub within : run.low + 2 ^ run.bits ≤ 2 ^ 62

-- one label was given again
pub record Labelled (old new : List Link) (at label : ℕ) : Type 0 where
  pub same : SameLinks old new
  pub changed : label_of new at ≡ label
  pub others : (k : ℕ) → k ≢ at → label_of new k ≡ label_of old k

-- `count` links from first on have labels from low on, this far apart
pub record Spread (old new : List Link) (first count low gap : ℕ) : Type 0 where
  pub same : SameLinks old new
  pub inside : (s j : ℕ) → is_in s (stamps_of old) ≡ true → place s (stamps_of old) ≡ place first (stamps_of old) + j
      → j < count
      → label_of new s ≡ low + j * gap
  pub before : (s : ℕ) → is_in s (stamps_of old) ≡ true → place s (stamps_of old) < place first (stamps_of old)
      → label_of new s ≡ label_of old s
  pub after : (s : ℕ) → is_in s (stamps_of old) ≡ true → place first (stamps_of old) + count ≤ place s (stamps_of old)
      → label_of new s ≡ label_of old s
